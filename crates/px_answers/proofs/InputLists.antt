-- What the values and the causes of a list of inputs say of a node over them.
use Rattle.std.proofs.Common.{◌≡◌, ◌≤◌, ◌^◌, Bool, true, false, ◌&&◌, ◌||◌, List, [], ◌∷◌, ◌++◌, Some, ◌⊎◌, inl, inr, refl, sym, ◌∙◌, subst, arith}
use Rattle.std.specs.List.{flat_map, list_any}
use Rattle.std.proofs.lemmas.Grind.{flat_map-append}
use Rattle.px_value.specs.declared.error.PxError.{PxError}
use Rattle.px_value.specs.declared.error.PxError.TheVariants.{ComputeError, ShapeMismatch, OutOfMemory}
use Rattle.px_value.specs.declared.error.ComputeWhy.TheVariants.{TooLong}
use Rattle.px_frame.specs.Cell.{Cell, is_unit_cell}
use Rattle.px_frame.specs.External.{Frame, scope_of}
use Rattle.px_frame.specs.Spread.{NamedCell}
use Rattle.px_nodes.specs.Named.{kinds_of, cells_in, first_name}
use Rattle.px_tree.specs.Shape.{is_unit_first, are_units}
use Rattle.px_tree.specs.Shape.{first_name as first_tree_name}
use Rattle.px_tree.specs.Size.{size_on, sizes_on}
use Rattle.px_tree.specs.Tree.{Trees, no_trees, one_tree}
use Rattle.px_tree.specs.Typing.{refusals_of, all_refusals_of, kinds_in, or_first, refused_where}
use Rattle.px_tree.specs.Value.{cells_on, faults_on, all_faults_on}
use Rattle.px_tree.specs.declared.context.Context.TheVariants.{Default}
use Rattle.px_answers.specs.Parts.{plan_trees, plan_columns}
use Rattle.px_answers.specs.Planned.{Planned, PlannedColumn}
use Rattle.px_answers.specs.Value.{IsOneOf, IsCause, IsCauseOfAny, IsCellOf, AreCellsOf, causes_on, finds_misfit, has_misfit_column, unfound_refusal}

-- what is one of some errors is one of more
pub among_left : (e : PxError) (xs ys : List PxError) → IsOneOf e xs → IsOneOf e (xs ++ ys)
among_left e [] ys h = absurd h
among_left e (x ∷ xs) ys (inl h) = inl h
among_left e (x ∷ xs) ys (inr h) = inr (among_left e xs ys h)

pub among_right : (e : PxError) (xs ys : List PxError) → IsOneOf e ys → IsOneOf e (xs ++ ys)
among_right e [] ys h = h
among_right e (x ∷ xs) ys h = inr (among_right e xs ys h)

among_either : (e : PxError) (xs ys : List PxError) → IsOneOf e (xs ++ ys) → IsOneOf e xs ⊎ IsOneOf e ys
among_either e [] ys h = inr h
among_either e (x ∷ xs) ys (inl h) = inl (inl h)
among_either e (x ∷ xs) ys (inr h) = by (among_either e xs ys h)
  where
    by : IsOneOf e xs ⊎ IsOneOf e ys → IsOneOf e (x ∷ xs) ⊎ IsOneOf e ys
    by (inl k) = inl (inr k)
    by (inr k) = inr k

-- one of four lists has it: of refusals, columns not found, heights and faults
abbrev IsOneOfFour : PxError → List PxError → List PxError → List PxError → List PxError → Type 0
IsOneOfFour e rs us ms fs = (IsOneOf e rs ⊎ IsOneOf e us) ⊎ (IsOneOf e ms ⊎ IsOneOf e fs)

which_of_four : (e : PxError) (rs us ms fs : List PxError) → IsOneOf e (rs ++ us ++ ms ++ fs) → IsOneOfFour e rs us ms fs
which_of_four e rs us ms fs h = by (among_either e (rs ++ us ++ ms) fs h)
  where
    second : IsOneOf e rs ⊎ IsOneOf e us → IsOneOfFour e rs us ms fs
    second k = inl k

    first : IsOneOf e (rs ++ us) ⊎ IsOneOf e ms → IsOneOfFour e rs us ms fs
    first (inl k) = second (among_either e rs us k)
    first (inr k) = inr (inl k)

    by : IsOneOf e (rs ++ us ++ ms) ⊎ IsOneOf e fs → IsOneOfFour e rs us ms fs
    by (inl k) = first (among_either e (rs ++ us) ms k)
    by (inr k) = inr (inr k)

one_of_four : (e : PxError) (rs us ms fs : List PxError) → IsOneOfFour e rs us ms fs → IsOneOf e (rs ++ us ++ ms ++ fs)
one_of_four e rs us ms fs (inl (inl h)) = among_left e (rs ++ us ++ ms) fs (among_left e (rs ++ us) ms (among_left e rs us h))
one_of_four e rs us ms fs (inl (inr h)) = among_left e (rs ++ us ++ ms) fs (among_left e (rs ++ us) ms (among_right e rs us h))
one_of_four e rs us ms fs (inr (inl h)) = among_left e (rs ++ us ++ ms) fs (among_right e (rs ++ us) ms h)
one_of_four e rs us ms fs (inr (inr h)) = among_right e (rs ++ us ++ ms) fs h

-- a height that does not fit among some columns is one among more
misfit_left : (e : PxError) (g : PlannedColumn → Bool) (xs ys : List PlannedColumn) → IsOneOf e (refused_where (list_any g xs) ShapeMismatch) → IsOneOf e (refused_where (list_any g (xs ++ ys)) ShapeMismatch)
misfit_left e g [] ys h = absurd h
misfit_left e g (x ∷ xs) ys h = by (g x) h (misfit_left e g xs ys)
  where
    by : (b : Bool) → IsOneOf e (refused_where (b || list_any g xs) ShapeMismatch) → (IsOneOf e (refused_where (list_any g xs) ShapeMismatch) → IsOneOf e (refused_where (list_any g (xs ++ ys)) ShapeMismatch))
        → IsOneOf e (refused_where (b || list_any g (xs ++ ys)) ShapeMismatch)
    by true k rest = k
    by false k rest = rest k

misfit_right : (e : PxError) (g : PlannedColumn → Bool) (xs ys : List PlannedColumn) → IsOneOf e (refused_where (list_any g ys) ShapeMismatch) → IsOneOf e (refused_where (list_any g (xs ++ ys)) ShapeMismatch)
misfit_right e g [] ys h = h
misfit_right e g (x ∷ xs) ys h = by (g x) (misfit_right e g xs ys h)
  where
    none : (b : Bool) → IsOneOf e (refused_where b ShapeMismatch) → IsOneOf e (refused_where true ShapeMismatch)
    none true k = k
    none false k = absurd k

    by : (b : Bool) → IsOneOf e (refused_where (list_any g (xs ++ ys)) ShapeMismatch) → IsOneOf e (refused_where (b || list_any g (xs ++ ys)) ShapeMismatch)
    by true k = none (list_any g (xs ++ ys)) k
    by false k = k

-- the refusals, the columns not found, the heights and the faults of some inputs
abbrev all_refused : List Planned → Frame → List PxError
all_refused ps f = all_refusals_of (plan_trees ps) (scope_of f) Default

abbrev all_unfound : List Planned → Frame → List PxError
all_unfound ps f = flat_map (unfound_refusal f) (plan_columns ps)

abbrev all_misfits : List Planned → Frame → List PxError
all_misfits ps f = refused_where (list_any (finds_misfit f) (plan_columns ps)) ShapeMismatch

abbrev all_faults : List Planned → Frame → List PxError
all_faults ps f = all_faults_on (plan_trees ps) f

-- a cause of one input is one of the four of all
sort_of_cause : (e : PxError) (ps : List Planned) (f : Frame) → IsOneOf e (flat_map (λ p. causes_on p f) ps) → IsOneOfFour e (all_refused ps f) (all_unfound ps f) (all_misfits ps f) (all_faults ps f)
sort_of_cause e [] f h = absurd h
sort_of_cause e (p ∷ ps) f h = by (sort_of_cause e ps f) (among_either e (causes_on p f) (flat_map (λ q. causes_on q f) ps) h)
  where
    unfound_apart : all_unfound (p ∷ ps) f ≡ flat_map (unfound_refusal f) p.columns ++ all_unfound ps f
    unfound_apart = flat_map-append (unfound_refusal f) p.columns (plan_columns ps)

    here : IsOneOfFour e (refusals_of p.tree (scope_of f) Default) (flat_map (unfound_refusal f) p.columns) (refused_where (has_misfit_column p f) ShapeMismatch) (faults_on p.tree f)
        → IsOneOfFour e (all_refused (p ∷ ps) f) (all_unfound (p ∷ ps) f) (all_misfits (p ∷ ps) f) (all_faults (p ∷ ps) f)
    here (inl (inl k)) = inl (inl (among_left e (refusals_of p.tree (scope_of f) Default) (all_refused ps f) k))
    here (inl (inr k)) = inl (inr (subst (IsOneOf e) (sym unfound_apart) (among_left e (flat_map (unfound_refusal f) p.columns) (all_unfound ps f) k)))
    here (inr (inl k)) = inr (inl (misfit_left e (finds_misfit f) p.columns (plan_columns ps) k))
    here (inr (inr k)) = inr (inr (among_left e (faults_on p.tree f) (all_faults ps f) k))

    later : IsOneOfFour e (all_refused ps f) (all_unfound ps f) (all_misfits ps f) (all_faults ps f)
        → IsOneOfFour e (all_refused (p ∷ ps) f) (all_unfound (p ∷ ps) f) (all_misfits (p ∷ ps) f) (all_faults (p ∷ ps) f)
    later (inl (inl k)) = inl (inl (among_right e (refusals_of p.tree (scope_of f) Default) (all_refused ps f) k))
    later (inl (inr k)) = inl (inr (subst (IsOneOf e) (sym unfound_apart) (among_right e (flat_map (unfound_refusal f) p.columns) (all_unfound ps f) k)))
    later (inr (inl k)) = inr (inl (misfit_right e (finds_misfit f) p.columns (plan_columns ps) k))
    later (inr (inr k)) = inr (inr (among_right e (faults_on p.tree f) (all_faults ps f) k))

    by : (IsOneOf e (flat_map (λ q. causes_on q f) ps) → IsOneOfFour e (all_refused ps f) (all_unfound ps f) (all_misfits ps f) (all_faults ps f)) → IsOneOf e (causes_on p f) ⊎ IsOneOf e (flat_map (λ q. causes_on q f) ps)
        → IsOneOfFour e (all_refused (p ∷ ps) f) (all_unfound (p ∷ ps) f) (all_misfits (p ∷ ps) f) (all_faults (p ∷ ps) f)
    by rest (inl k) = here (which_of_four e (refusals_of p.tree (scope_of f) Default) (flat_map (unfound_refusal f) p.columns) (refused_where (has_misfit_column p f) ShapeMismatch) (faults_on p.tree f) k)
    by rest (inr k) = later (rest k)

among_or_first : (e : PxError) (rs own : List PxError) → IsOneOf e rs → IsOneOf e (or_first rs own)
among_or_first e [] own h = absurd h
among_or_first e (r ∷ rs) own h = h

-- a cause of one of some expressions is a cause of another where each size and each cause is
pub any_cause_of : (e : PxError) (ps : List Planned) (q : Planned) (f : Frame) → (2 ^ 32 ≤ sizes_on (plan_trees ps) (f ∷ []) → 2 ^ 32 ≤ size_on q.tree (f ∷ [])) → (IsOneOf e (flat_map (λ p. causes_on p f) ps) → IsOneOf e (causes_on q f)) → IsCauseOfAny e ps f → IsCause e q f
any_cause_of OutOfMemory ps q f s c h = tt
any_cause_of (ComputeError TooLong) ps q f s c h = s h
any_cause_of _ ps q f s c h = c h

-- and the other way
cause_of_any : (e : PxError) (p : Planned) (qs : List Planned) (f : Frame) → (2 ^ 32 ≤ size_on p.tree (f ∷ []) → 2 ^ 32 ≤ sizes_on (plan_trees qs) (f ∷ [])) → (IsOneOf e (causes_on p f) → IsOneOf e (flat_map (λ q. causes_on q f) qs)) → IsCause e p f → IsCauseOfAny e qs f
cause_of_any OutOfMemory p qs f s c h = tt
cause_of_any (ComputeError TooLong) p qs f s c h = s h
cause_of_any _ p qs f s c h = c h

-- and from a list to a longer one
more_causes : (e : PxError) (p : Planned) (ps : List Planned) (f : Frame) → (2 ^ 32 ≤ sizes_on (plan_trees ps) (f ∷ []) → 2 ^ 32 ≤ sizes_on (plan_trees (p ∷ ps)) (f ∷ [])) → (IsOneOf e (flat_map (λ q. causes_on q f) ps) → IsOneOf e (flat_map (λ q. causes_on q f) (p ∷ ps))) → IsCauseOfAny e ps f → IsCauseOfAny e (p ∷ ps) f
more_causes OutOfMemory p ps f s c h = tt
more_causes (ComputeError TooLong) p ps f s c h = s h
more_causes _ p ps f s c h = c h

pub cause_of_first : (e : PxError) (p : Planned) (ps : List Planned) (f : Frame) → IsCause e p f → IsCauseOfAny e (p ∷ ps) f
cause_of_first e p ps f h =
    cause_of_any e p (p ∷ ps) f (λ (b : 2 ^ 32 ≤ size_on p.tree (f ∷ [])). omega (arith, b)) (among_left e (causes_on p f) (flat_map (λ q. causes_on q f) ps)) h

pub cause_of_others : (e : PxError) (p : Planned) (ps : List Planned) (f : Frame) → IsCauseOfAny e ps f → IsCauseOfAny e (p ∷ ps) f
cause_of_others e p ps f h =
    more_causes e p ps f (λ (b : 2 ^ 32 ≤ sizes_on (plan_trees ps) (f ∷ [])). omega (arith, b)) (among_right e (causes_on p f) (flat_map (λ q. causes_on q f) ps)) h

-- a cause of an input is one of the node over the inputs
pub cause_of_inputs : (e : PxError) (ps : List Planned) (q : Planned) (f : Frame) (own more : List PxError)
    → refusals_of q.tree (scope_of f) Default ≡ or_first (all_refused ps f) own → q.columns ≡ plan_columns ps → faults_on q.tree f ≡ all_faults ps f ++ more
    → (2 ^ 32 ≤ sizes_on (plan_trees ps) (f ∷ []) → 2 ^ 32 ≤ size_on q.tree (f ∷ [])) → IsCauseOfAny e ps f → IsCause e q f
cause_of_inputs e ps q f own more r u t s h = any_cause_of e ps q f s (λ k. lifted (sort_of_cause e ps f k)) h
  where
    lifted : IsOneOfFour e (all_refused ps f) (all_unfound ps f) (all_misfits ps f) (all_faults ps f) → IsOneOf e (causes_on q f)
    lifted k =
        one_of_four e (refusals_of q.tree (scope_of f) Default) (flat_map (unfound_refusal f) q.columns) (refused_where (has_misfit_column q f) ShapeMismatch) (faults_on q.tree f) (by k)
      where
        by : IsOneOfFour e (all_refused ps f) (all_unfound ps f) (all_misfits ps f) (all_faults ps f)
            → IsOneOfFour e (refusals_of q.tree (scope_of f) Default) (flat_map (unfound_refusal f) q.columns) (refused_where (has_misfit_column q f) ShapeMismatch) (faults_on q.tree f)
        by (inl (inl j)) = inl (inl (subst (IsOneOf e) (sym r) (among_or_first e (all_refused ps f) own j)))
        by (inl (inr j)) = inl (inr (subst (λ (cs : List PlannedColumn). IsOneOf e (flat_map (unfound_refusal f) cs)) (sym u) j))
        by (inr (inl j)) = inr (inl (subst (λ (cs : List PlannedColumn). IsOneOf e (refused_where (list_any (finds_misfit f) cs) ShapeMismatch)) (sym u) j))
        by (inr (inr j)) = inr (inr (subst (IsOneOf e) (sym t) (among_left e (all_faults ps f) more j)))

no_front : {X : Type 0} (xs ys : List X) → xs ++ ys ≡ [] → (xs ≡ []) × (ys ≡ [])
no_front [] ys h = (refl, h)
no_front (x ∷ xs) ys h = absurd (cc h)

fits_there : (b : Bool) → refused_where b ShapeMismatch ≡ [] → b ≡ false
fits_there true h = absurd (cc h)
fits_there false h = refl

-- nothing is a cause of an expression
record IsClear (p : Planned) (f : Frame) : Type 0 where
  pub refused : refusals_of p.tree (scope_of f) Default ≡ []
  pub found : flat_map (unfound_refusal f) p.columns ≡ []
  pub fits : has_misfit_column p f ≡ false
  pub faults : faults_on p.tree f ≡ []

clear_of : (p : Planned) (f : Frame) → causes_on p f ≡ [] → IsClear p f
clear_of p f h =
    let last = no_front (refusals_of p.tree (scope_of f) Default ++ flat_map (unfound_refusal f) p.columns ++ refused_where (has_misfit_column p f) ShapeMismatch) (faults_on p.tree f) h in
    let middle = no_front (refusals_of p.tree (scope_of f) Default ++ flat_map (unfound_refusal f) p.columns) (refused_where (has_misfit_column p f) ShapeMismatch) last.0 in
    let first = no_front (refusals_of p.tree (scope_of f) Default) (flat_map (unfound_refusal f) p.columns) middle.0 in
    record { refused = first.0; found = first.1; fits = fits_there (has_misfit_column p f) middle.1; faults = last.1 }

-- whether the first cell is a unit
abbrev pub is_unit_first_cell : List Cell → Bool
is_unit_first_cell [] = false
is_unit_first_cell (c ∷ cs) = is_unit_cell c

-- whether each cell is a unit
abbrev pub are_unit_cells : List Cell → Bool
are_unit_cells [] = true
are_unit_cells (c ∷ cs) = is_unit_cell c && are_unit_cells cs

-- as many cells as expressions
abbrev pub AreAsMany : Trees → List NamedCell → Type 0
AreAsMany no_trees [] = Unit {0}
AreAsMany (one_tree t ts) (c ∷ cs) = AreAsMany ts cs
AreAsMany _ _ = ⊥

-- what the cells of some expressions say of them together
pub record AreInputs (ps : List Planned) (f : Frame) (cs : List NamedCell) : Type 0 where
  pub refused : all_refusals_of (plan_trees ps) (scope_of f) Default ≡ []
  pub found : flat_map (unfound_refusal f) (plan_columns ps) ≡ []
  pub fits : list_any (finds_misfit f) (plan_columns ps) ≡ false
  pub faults : all_faults_on (plan_trees ps) f ≡ []
  pub kinds : kinds_in (plan_trees ps) (scope_of f) ≡ Some (kinds_of cs)
  pub cells : cells_on (plan_trees ps) f ≡ Some (cells_in cs)
  pub as_many : AreAsMany (plan_trees ps) cs
  pub name : first_name cs ≡ first_tree_name (plan_trees ps)
  pub first : is_unit_first_cell (cells_in cs) ≡ is_unit_first (plan_trees ps)
  pub units : are_unit_cells (cells_in cs) ≡ are_units (plan_trees ps)

none_of_both : (g : PlannedColumn → Bool) (xs ys : List PlannedColumn) → list_any g xs ≡ false → list_any g ys ≡ false → list_any g (xs ++ ys) ≡ false
none_of_both g [] ys h k = k
none_of_both g (x ∷ xs) ys h k = by (g x) h (λ j. none_of_both g xs ys j k)
  where
    by : (b : Bool) → (b || list_any g xs) ≡ false → (list_any g xs ≡ false → list_any g (xs ++ ys) ≡ false) → (b || list_any g (xs ++ ys)) ≡ false
    by true j rest = absurd (cc j)
    by false j rest = rest j

pub inputs_of : (ps : List Planned) (f : Frame) (cs : List NamedCell) → AreCellsOf ps f cs → AreInputs ps f cs
inputs_of [] f [] h = record { refused = refl; found = refl; fits = refl; faults = refl; kinds = refl; cells = refl; as_many = tt; name = refl; first = refl; units = refl }
inputs_of [] f (c ∷ cs) h = absurd h
inputs_of (p ∷ ps) f [] h = absurd h
inputs_of (p ∷ ps) f (c ∷ cs) h =
    let rest = inputs_of ps f cs h.1 in
    let here : IsCellOf p f c = h.0 in
    let own = clear_of p f here.sound in
    record {
      refused = rw (own.refused, rest.refused) refl;
      found = flat_map-append (unfound_refusal f) p.columns (plan_columns ps) ∙ rw (own.found, rest.found) refl;
      fits = none_of_both (finds_misfit f) p.columns (plan_columns ps) own.fits rest.fits;
      faults = rw (own.faults, rest.faults) refl;
      kinds = rw (here.kind, rest.kinds) refl;
      cells = rw (here.value, rest.cells) refl;
      as_many = rest.as_many;
      name = here.name;
      first = here.shape;
      units = rw (here.shape, rest.units) refl;
    }
