-- A node over its inputs: the causes of an input are causes of the node, and from the inputs' cells come the node's cell or a
-- cause of its own.
use Rattle.std.proofs.Common.{◌≡◌, ℕ, ◌^◌, ◌≤◌, Bool, true, false, ◌||◌, List, [], ◌∷◌, ◌++◌, append_assoc, Some, Result, Ok, Err, IfOk, ◌⊎◌, inl, inr, refl, sym, ◌∙◌, ap, subst, arith}
use Rattle.std.specs.List.{flat_map, list_any}
use Rattle.std.proofs.lemmas.Grind.{flat_map-append}
use Rattle.std.proofs.lemmas.List.{append-nil}
use Rattle.std.proofs.lemmas.List.Folds.{list_any-append}
use Rattle.px_column.specs.Prelude.{Kind, Refuses}
use Rattle.px_column.specs.Result.{◌>>=◌}
use Rattle.px_value.specs.declared.error.PxError.{PxError}
use Rattle.px_value.specs.declared.error.PxError.TheVariants.{ComputeError, ShapeMismatch, OutOfMemory}
use Rattle.px_value.specs.declared.error.ComputeWhy.TheVariants.{TooLong}
use Rattle.px_frame.specs.Cell.{Cell, is_unit_cell}
use Rattle.px_frame.specs.External.{Frame, scope_of}
use Rattle.px_frame.specs.Spread.{NamedCell}
use Rattle.px_nodes.specs.Named.{under}
use Rattle.px_tree.proofs.KindLaws.{none_left, none_right}
use Rattle.px_tree.specs.Shape.{is_unit, name_of}
use Rattle.px_tree.specs.Size.{count_on, size_on, sizes_on}
use Rattle.px_tree.specs.Typing.{Scope, kind_in, refusals_of, all_refusals_of, own_refusals, or_first, refusal_of, refused_where}
use Rattle.px_tree.specs.Value.{outcome_on, made, fault_in, faults_on, all_faults_on}
use Rattle.px_tree.specs.declared.context.Context.{Context}
use Rattle.px_tree.specs.declared.context.Context.TheVariants.{Default}
use Rattle.px_answers.proofs.Plain.{is_plain, Plain}
use Rattle.px_answers.specs.Parts.{plan_trees}
use Rattle.px_answers.specs.Planned.{Planned, PlannedColumn}
use Rattle.px_answers.specs.Value.{IsOneOf, IsCause, IsCellOf, causes_on, finds_misfit, has_misfit_column, unfound_refusal}

-- it is one of these expressions
abbrev pub IsIn : Planned → List Planned → Type 0
IsIn p [] = ⊥
IsIn p (q ∷ qs) = (p ≡ q) ⊎ IsIn p qs

-- an expression stands over these and no others: what it has of them, and what comes of its own
pub record IsNode (q : Planned) (ps : List Planned) (f : Frame) : Type 0 where
  pub refusals : (place : Context) → refusals_of q.tree (scope_of f) place ≡ or_first (flat_map (λ (p : Planned). refusals_of p.tree (scope_of f) place) ps) (own_refusals q.tree (scope_of f) place)
  pub columns : q.columns ≡ flat_map (λ (p : Planned). p.columns) ps
  pub faults : faults_on q.tree f ≡ flat_map (λ (p : Planned). faults_on p.tree f) ps ++ fault_in (outcome_on q.tree f)
  pub sizes : (fs : List Frame) → sizes_on (plan_trees ps) fs ≤ size_on q.tree fs

-- what is one of some errors is one of more
pub one_left : (e : PxError) (xs ys : List PxError) → IsOneOf e xs → IsOneOf e (xs ++ ys)
one_left e [] ys h = absurd h
one_left e (x ∷ xs) ys (inl h) = inl h
one_left e (x ∷ xs) ys (inr h) = inr (one_left e xs ys h)

pub one_right : (e : PxError) (xs ys : List PxError) → IsOneOf e ys → IsOneOf e (xs ++ ys)
one_right e [] ys h = h
one_right e (x ∷ xs) ys h = inr (one_right e xs ys h)

-- and of two lists it is of one
pub one_split : (e : PxError) (xs ys : List PxError) → IsOneOf e (xs ++ ys) → IsOneOf e xs ⊎ IsOneOf e ys
one_split e [] ys h = inr h
one_split e (x ∷ xs) ys (inl h) = inl (inl h)
one_split e (x ∷ xs) ys (inr h) = later (one_split e xs ys h)
  where
    later : IsOneOf e xs ⊎ IsOneOf e ys → IsOneOf e (x ∷ xs) ⊎ IsOneOf e ys
    later (inl k) = inl (inr k)
    later (inr k) = inr k

pub both_up : (e : PxError) (xs ys us vs : List PxError) → (IsOneOf e xs → IsOneOf e us) → (IsOneOf e ys → IsOneOf e vs) → IsOneOf e (xs ++ ys) → IsOneOf e (us ++ vs)
both_up e xs ys us vs w z h = by (one_split e xs ys h)
  where
    by : IsOneOf e xs ⊎ IsOneOf e ys → IsOneOf e (us ++ vs)
    by (inl k) = one_left e us vs (w k)
    by (inr k) = one_right e us vs (z k)

pub first_up : (e : PxError) (rs own : List PxError) → IsOneOf e rs → IsOneOf e (or_first rs own)
first_up e [] own h = absurd h
first_up e (r ∷ rs) own h = h

pub where_up : (e s : PxError) (b c : Bool) → (b ≡ true → c ≡ true) → IsOneOf e (refused_where b s) → IsOneOf e (refused_where c s)
where_up e s true c w h = rw (w refl) h
where_up e s false c w h = absurd h

-- what is of one expression is of all
pub in_all : (e : PxError) (g : Planned → List PxError) (p : Planned) (ps : List Planned) → IsIn p ps → IsOneOf e (g p) → IsOneOf e (flat_map g ps)
in_all e g p [] i h = absurd i
in_all e g p (q ∷ qs) (inl s) h = one_left e (g q) (flat_map g qs) (subst (λ (x : Planned). IsOneOf e (g x)) s h)
in_all e g p (q ∷ qs) (inr i) h = one_right e (g q) (flat_map g qs) (in_all e g p qs i h)

or_true : (a b : Bool) → b ≡ true → (a || b) ≡ true
or_true true b h = refl
or_true false b h = h

pub any_in : (t : PlannedColumn → Bool) (p : Planned) (ps : List Planned) → IsIn p ps → list_any t p.columns ≡ true → list_any t (flat_map (λ (x : Planned). x.columns) ps) ≡ true
any_in t p [] i h = absurd i
any_in t p (q ∷ qs) (inl s) h =
    let here : list_any t q.columns ≡ true = subst (λ (x : Planned). list_any t x.columns ≡ true) s h in
    list_any-append t q.columns (flat_map (λ (x : Planned). x.columns) qs) ∙ ap (λ b. b || list_any t (flat_map (λ (x : Planned). x.columns) qs)) here
any_in t p (q ∷ qs) (inr i) h =
    list_any-append t q.columns (flat_map (λ (x : Planned). x.columns) qs) ∙ or_true (list_any t q.columns) (list_any t (flat_map (λ (x : Planned). x.columns) qs)) (any_in t p qs i h)

pub size_in : (p : Planned) (ps : List Planned) (fs : List Frame) → IsIn p ps → size_on p.tree fs ≤ sizes_on (plan_trees ps) fs
size_in p [] fs i = absurd i
size_in p (q ∷ qs) fs (inl s) = let same : size_on p.tree fs ≡ size_on q.tree fs = ap (λ (x : Planned). size_on x.tree fs) s in omega (arith, same)
size_in p (q ∷ qs) fs (inr i) = let less = size_in p qs fs i in omega (arith, less)

columns_apart : (u : PlannedColumn → List PxError) (ps : List Planned) → flat_map u (flat_map (λ (p : Planned). p.columns) ps) ≡ flat_map (λ (p : Planned). flat_map u p.columns) ps
columns_apart u [] = refl
columns_apart u (p ∷ ps) = flat_map-append u p.columns (flat_map (λ (x : Planned). x.columns) ps) ∙ ap (λ es. flat_map u p.columns ++ es) (columns_apart u ps)

-- a node's column nodes that find no column are its inputs'
pub unfound_apart : (q : Planned) (ps : List Planned) (f : Frame) → IsNode q ps f → flat_map (unfound_refusal f) q.columns ≡ flat_map (λ (p : Planned). flat_map (unfound_refusal f) p.columns) ps
unfound_apart q ps f n = ap (flat_map (unfound_refusal f)) n.columns ∙ columns_apart (unfound_refusal f) ps

-- a cause of one expression is a cause of another where each size and each other cause is
pub cause_of : (e : PxError) (p q : Planned) (f : Frame) → (2 ^ 32 ≤ size_on p.tree (f ∷ []) → 2 ^ 32 ≤ size_on q.tree (f ∷ [])) → (IsOneOf e (causes_on p f) → IsOneOf e (causes_on q f)) → IsCause e p f → IsCause e q f
cause_of OutOfMemory p q f s c h = tt
cause_of (ComputeError TooLong) p q f s c h = s h
cause_of _ p q f s c h = c h

-- the refusals of an input's type are the node's
pub refusals_above : (e : PxError) (q : Planned) (ps : List Planned) (p : Planned) (f : Frame) → IsNode q ps f → IsIn p ps → IsOneOf e (refusals_of p.tree (scope_of f) Default) → IsOneOf e (refusals_of q.tree (scope_of f) Default)
refusals_above e q ps p f n i k =
    subst (IsOneOf e) (sym (n.refusals Default))
    (first_up e (flat_map (λ (x : Planned). refusals_of x.tree (scope_of f) Default) ps) (own_refusals q.tree (scope_of f) Default)
    (in_all e (λ (x : Planned). refusals_of x.tree (scope_of f) Default) p ps i k))

-- and so are the columns that it does not find
pub unfound_above : (e : PxError) (q : Planned) (ps : List Planned) (p : Planned) (f : Frame) → IsNode q ps f → IsIn p ps → IsOneOf e (flat_map (unfound_refusal f) p.columns) → IsOneOf e (flat_map (unfound_refusal f) q.columns)
unfound_above e q ps p f n i k = subst (IsOneOf e) (sym (unfound_apart q ps f n)) (in_all e (λ (x : Planned). flat_map (unfound_refusal f) x.columns) p ps i k)

-- all that is told of an input is told of the node
pub causes_above : (e : PxError) (q : Planned) (ps : List Planned) (p : Planned) (f : Frame) → IsNode q ps f → IsIn p ps → IsOneOf e (causes_on p f) → IsOneOf e (causes_on q f)
causes_above e q ps p f n i k =
    let rp = refusals_of p.tree (scope_of f) Default in
    let rq = refusals_of q.tree (scope_of f) Default in
    let up = flat_map (unfound_refusal f) p.columns in
    let uq = flat_map (unfound_refusal f) q.columns in
    let mp = refused_where (has_misfit_column p f) ShapeMismatch in
    let mq = refused_where (has_misfit_column q f) ShapeMismatch in
    both_up e (rp ++ up ++ mp) (faults_on p.tree f) (rq ++ uq ++ mq) (faults_on q.tree f)
    (both_up e (rp ++ up) mp (rq ++ uq) mq (both_up e rp up rq uq (refusals_above e q ps p f n i) (unfound_above e q ps p f n i)) misfit) faults k
  where
    misfit : IsOneOf e (refused_where (has_misfit_column p f) ShapeMismatch) → IsOneOf e (refused_where (has_misfit_column q f) ShapeMismatch)
    misfit j = where_up e ShapeMismatch (has_misfit_column p f) (has_misfit_column q f) (λ t. ap (list_any (finds_misfit f)) n.columns ∙ any_in (finds_misfit f) p ps i t) j

    faults : IsOneOf e (faults_on p.tree f) → IsOneOf e (faults_on q.tree f)
    faults j = subst (IsOneOf e) (sym n.faults) (one_left e (flat_map (λ (x : Planned). faults_on x.tree f) ps) (fault_in (outcome_on q.tree f)) (in_all e (λ (x : Planned). faults_on x.tree f) p ps i j))

-- the causes of an input are causes of the node
pub cause_above : (e : PxError) (q : Planned) (ps : List Planned) (p : Planned) (f : Frame) → IsNode q ps f → IsIn p ps → IsCause e p f → IsCause e q f
cause_above e q ps p f n i h =
    cause_of e p q f (λ (b : 2 ^ 32 ≤ size_on p.tree (f ∷ [])). omega (arith, b, n.sizes (f ∷ []), size_in p ps (f ∷ []) i)) (causes_above e q ps p f n i) h

-- nothing of all is nothing of each
pub all_none : (g h : Planned → List PxError) (ps : List Planned) → ((p : Planned) → g p ≡ [] → h p ≡ []) → flat_map g ps ≡ [] → flat_map h ps ≡ []
all_none g h [] w e = refl
all_none g h (p ∷ ps) w e =
    let here = w p (none_left (g p) (flat_map g ps) e) in
    let rest = all_none g h ps w (none_right (g p) (flat_map g ps) e) in
    ap (λ xs. xs ++ flat_map h ps) here ∙ rest

-- four lists that are nothing together are nothing each
pub none_parts : (r u m fs : List PxError) → r ++ u ++ m ++ fs ≡ [] → (r ≡ []) × (u ≡ []) × (m ≡ []) × (fs ≡ [])
none_parts r u m fs h =
    let a = none_left (r ++ u ++ m) fs h in
    let b = none_left (r ++ u) m a in
    (none_left r u b, none_right r u b, none_right (r ++ u) m a, none_right (r ++ u ++ m) fs h)

pub parts_none : (r u m fs : List PxError) → r ≡ [] → u ≡ [] → m ≡ [] → fs ≡ [] → r ++ u ++ m ++ fs ≡ []
parts_none r u m fs a b c d = rw (a, b, c, d) refl

-- an expression with no cause: its four kinds of causes
pub parts_of : (p : Planned) (f : Frame) → causes_on p f ≡ [] → (refusals_of p.tree (scope_of f) Default ≡ []) × (flat_map (unfound_refusal f) p.columns ≡ []) × (refused_where (has_misfit_column p f) ShapeMismatch ≡ []) × (faults_on p.tree f ≡ [])
parts_of p f h = none_parts (refusals_of p.tree (scope_of f) Default) (flat_map (unfound_refusal f) p.columns) (refused_where (has_misfit_column p f) ShapeMismatch) (faults_on p.tree f) h

not_where : (b : Bool) (s : PxError) → refused_where b s ≡ [] → b ≡ false
not_where true s h = absurd (cc h)
not_where false s h = refl

-- where no input finds a column of another height, their node finds none
pub no_misfit : (t : PlannedColumn → Bool) (s : PxError) (ps : List Planned) → flat_map (λ (p : Planned). refused_where (list_any t p.columns) s) ps ≡ [] → list_any t (flat_map (λ (p : Planned). p.columns) ps) ≡ false
no_misfit t s [] e = refl
no_misfit t s (p ∷ ps) e =
    let one = refused_where (list_any t p.columns) s in
    let others = flat_map (λ (x : Planned). refused_where (list_any t x.columns) s) ps in
    let here = not_where (list_any t p.columns) s (none_left one others e) in
    list_any-append t p.columns (flat_map (λ (x : Planned). x.columns) ps) ∙ ap (λ b. b || list_any t (flat_map (λ (x : Planned). x.columns) ps)) here ∙ no_misfit t s ps (none_right one others e)

-- the refusals of a node whose inputs have no cause
own_alone : (q : Planned) (ps : List Planned) (f : Frame) → IsNode q ps f → flat_map (λ (p : Planned). causes_on p f) ps ≡ [] → refusals_of q.tree (scope_of f) Default ≡ or_first [] (own_refusals q.tree (scope_of f) Default)
own_alone q ps f n h =
    n.refusals Default ∙ ap (λ rs. or_first rs (own_refusals q.tree (scope_of f) Default)) (all_none (λ (p : Planned). causes_on p f) (λ (p : Planned). refusals_of p.tree (scope_of f) Default) ps (λ p k. (parts_of p f k).0) h)

-- a node has no cause where its inputs have none, and it has none of its own
pub sound_above : (q : Planned) (ps : List Planned) (f : Frame) → IsNode q ps f → flat_map (λ (p : Planned). causes_on p f) ps ≡ [] → or_first [] (own_refusals q.tree (scope_of f) Default) ≡ [] → fault_in (outcome_on q.tree f) ≡ [] → causes_on q f ≡ []
sound_above q ps f n h own fault =
    parts_none (refusals_of q.tree (scope_of f) Default) (flat_map (unfound_refusal f) q.columns) (refused_where (has_misfit_column q f) ShapeMismatch) (faults_on q.tree f)
    (own_alone q ps f n h ∙ own) unfound misfit faults
  where
    each : (g : Planned → List PxError) → ((p : Planned) → causes_on p f ≡ [] → g p ≡ []) → flat_map g ps ≡ []
    each g w = all_none (λ (p : Planned). causes_on p f) g ps w h

    unfound : flat_map (unfound_refusal f) q.columns ≡ []
    unfound = unfound_apart q ps f n ∙ each (λ (p : Planned). flat_map (unfound_refusal f) p.columns) (λ p k. (parts_of p f k).1)

    misfit : refused_where (has_misfit_column q f) ShapeMismatch ≡ []
    misfit =
        let none = no_misfit (finds_misfit f) ShapeMismatch ps (each (λ (p : Planned). refused_where (has_misfit_column p f) ShapeMismatch) (λ p k. (parts_of p f k).2)) in
        ap (λ b. refused_where b ShapeMismatch) (ap (list_any (finds_misfit f)) n.columns ∙ none)

    faults : faults_on q.tree f ≡ []
    faults = n.faults ∙ ap (λ xs. xs ++ fault_in (outcome_on q.tree f)) (each (λ (p : Planned). faults_on p.tree f) (λ p k. (parts_of p f k).3)) ∙ fault

-- its own first refusal is a cause
own_refusal : (e : PxError) (q : Planned) (ps : List Planned) (f : Frame) → IsNode q ps f → flat_map (λ (p : Planned). causes_on p f) ps ≡ [] → or_first [] (own_refusals q.tree (scope_of f) Default) ≡ e ∷ [] → IsOneOf e (causes_on q f)
own_refusal e q ps f n h own =
    let r = refusals_of q.tree (scope_of f) Default in
    let u = flat_map (unfound_refusal f) q.columns in
    let m = refused_where (has_misfit_column q f) ShapeMismatch in
    let first : IsOneOf e r = subst (IsOneOf e) (sym (own_alone q ps f n h ∙ own)) (inl refl) in
    one_left e (r ++ u ++ m) (faults_on q.tree f) (one_left e (r ++ u) m (one_left e r u first))

-- its own fault is one of its faults
pub fault_among : (e : PxError) (q : Planned) (ps : List Planned) (f : Frame) → IsNode q ps f → fault_in (outcome_on q.tree f) ≡ e ∷ [] → IsOneOf e (faults_on q.tree f)
fault_among e q ps f n h =
    let fault : IsOneOf e (fault_in (outcome_on q.tree f)) = subst (IsOneOf e) (sym h) (inl refl) in
    subst (IsOneOf e) (sym n.faults) (one_right e (flat_map (λ (p : Planned). faults_on p.tree f) ps) (fault_in (outcome_on q.tree f)) fault)

-- and so it is a cause
own_fault : (e : PxError) (q : Planned) (ps : List Planned) (f : Frame) → IsNode q ps f → fault_in (outcome_on q.tree f) ≡ e ∷ [] → IsOneOf e (causes_on q f)
own_fault e q ps f n h =
    one_right e (refusals_of q.tree (scope_of f) Default ++ flat_map (unfound_refusal f) q.columns ++ refused_where (has_misfit_column q f) ShapeMismatch) (faults_on q.tree f) (fault_among e q ps f n h)

plain_cause : (e : PxError) (p : Planned) (f : Frame) → is_plain e ≡ true → IsOneOf e (causes_on p f) → IsCause e p f
plain_cause OutOfMemory p f i h = tt
plain_cause (ComputeError TooLong) p f i h = absurd (cc i)
plain_cause _ p f i h = h

-- from its inputs' cells come a node's type or the refusal, and its cell or the fault
pub record Decides (q : Planned) (ps : List Planned) (f : Frame) (name : List ℕ) (typed : Result Kind PxError) (cell : Result Cell PxError) : Type 0 where
  pub node : IsNode q ps f
  pub sound : flat_map (λ (p : Planned). causes_on p f) ps ≡ []
  pub own : or_first [] (own_refusals q.tree (scope_of f) Default) ≡ refusal_of typed
  pub kind : IfOk typed (λ k. kind_in q.tree (scope_of f) ≡ Some k)
  pub outcome : outcome_on q.tree f ≡ Some cell
  pub named : name ≡ name_of q.tree
  pub shape : IfOk cell (λ c. is_unit_cell c ≡ is_unit q.tree)
  pub plain_type : Plain typed
  pub plain_cell : Plain cell

-- the cell that is made is the node's value
pub made_cell : (q : Planned) (ps : List Planned) (f : Frame) (name : List ℕ) (typed : Result Kind PxError) (cell : Result Cell PxError) (c : NamedCell) → Decides q ps f name typed cell → (typed >>= λ k. under name k cell) ≡ Ok c → IsCellOf q f c
made_cell q ps f name (Err e) cell c d h = absurd (cc h)
made_cell q ps f name (Ok k) (Err e) c d h = absurd (cc h)
made_cell q ps f name (Ok k) (Ok m) c d h =
    let same : record { name = name; kind = k; cell = m } ≡ c = cc in
    rw (← same) (record {
      sound = sound_above q ps f d.node d.sound d.own (ap fault_in d.outcome);
      name = d.named;
      kind = d.kind;
      value = ap made d.outcome;
      shape = d.shape;
    })

-- what a node answers: its value, the refusal of its type, a fault, or that it has too many values
abbrev pub IsAnswer : Planned → Frame → Result Kind PxError → Result NamedCell PxError → Type 0
IsAnswer q f typed (Ok c) = IsCellOf q f c
IsAnswer q f typed (Err e) =
    (typed ≡ Err e) ⊎ (((is_plain e ≡ true) × IsOneOf e (faults_on q.tree f)) ⊎ ((e ≡ ComputeError TooLong) × (2 ^ 32 ≤ count_on q.tree f)))

-- that is what comes of the type and the cell
pub answer_of : (q : Planned) (ps : List Planned) (f : Frame) (name : List ℕ) (typed : Result Kind PxError) (cell : Result Cell PxError) → Decides q ps f name typed cell → IsAnswer q f typed (typed >>= λ k. under name k cell)
answer_of q ps f name (Err w) cell d = inl refl
answer_of q ps f name (Ok k) (Err w) d = inr (inl (d.plain_cell, fault_among w q ps f d.node (ap fault_in d.outcome)))
answer_of q ps f name (Ok k) (Ok m) d = made_cell q ps f name (Ok k) (Ok m) (record { name = name; kind = k; cell = m }) d refl

-- the refusal or the fault is among the causes
pub made_among : (q : Planned) (ps : List Planned) (f : Frame) (name : List ℕ) (typed : Result Kind PxError) (cell : Result Cell PxError) (e : PxError) → Decides q ps f name typed cell → (typed >>= λ k. under name k cell) ≡ Err e → IsOneOf e (causes_on q f)
made_among q ps f name (Err w) cell e d h =
    let same : w ≡ e = cc in
    subst (λ (x : PxError). IsOneOf x (causes_on q f)) same (own_refusal w q ps f d.node d.sound d.own)
made_among q ps f name (Ok k) (Err w) e d h =
    let same : w ≡ e = cc in
    subst (λ (x : PxError). IsOneOf x (causes_on q f)) same (own_fault w q ps f d.node (ap fault_in d.outcome))
made_among q ps f name (Ok k) (Ok m) e d h = absurd (cc h)

-- the refusal or the fault is a cause of the node
pub made_cause : (q : Planned) (ps : List Planned) (f : Frame) (name : List ℕ) (typed : Result Kind PxError) (cell : Result Cell PxError) (e : PxError) → Decides q ps f name typed cell → (typed >>= λ k. under name k cell) ≡ Err e → IsCause e q f
made_cause q ps f name (Err w) cell e d h =
    let same : w ≡ e = cc in
    subst (λ (x : PxError). IsCause x q f) same (plain_cause w q f d.plain_type (own_refusal w q ps f d.node d.sound d.own))
made_cause q ps f name (Ok k) (Err w) e d h =
    let same : w ≡ e = cc in
    subst (λ (x : PxError). IsCause x q f) same (plain_cause w q f d.plain_cell (own_fault w q ps f d.node (ap fault_in d.outcome)))
made_cause q ps f name (Ok k) (Ok m) e d h = absurd (cc h)

-- want of memory, or what was expected to be refused
pub refused_cause : (e : PxError) (r : Result NamedCell PxError) (p : Planned) (f : Frame) → (r ≡ Err e → IsCause e p f) → Refuses e r → IsCause e p f
refused_cause OutOfMemory r p f w h = tt
refused_cause _ r p f w h = w h

-- what some inputs have together is what each has, one after another
pub all_refusals_apart : (scope : Scope) (place : Context) (ps : List Planned) → all_refusals_of (plan_trees ps) scope place ≡ flat_map (λ (p : Planned). refusals_of p.tree scope place) ps
all_refusals_apart scope place [] = refl
all_refusals_apart scope place (p ∷ ps) = ap (λ rs. refusals_of p.tree scope place ++ rs) (all_refusals_apart scope place ps)

pub all_faults_apart : (f : Frame) (ps : List Planned) → all_faults_on (plan_trees ps) f ≡ flat_map (λ (p : Planned). faults_on p.tree f) ps
all_faults_apart f [] = refl
all_faults_apart f (p ∷ ps) = ap (λ es. faults_on p.tree f ++ es) (all_faults_apart f ps)

-- lists side by side, with an empty one behind
pub one_apart : {A : Type 0} (a : List A) → a ≡ a ++ []
one_apart a = sym (append-nil a)

pub two_apart : {A : Type 0} (a b : List A) → a ++ b ≡ a ++ (b ++ [])
two_apart a b = ap (λ xs. a ++ xs) (one_apart b)

pub three_apart : {A : Type 0} (a b c : List A) → a ++ b ++ c ≡ a ++ (b ++ (c ++ []))
three_apart a b c = append_assoc a b c ∙ ap (λ xs. a ++ xs) (two_apart b c)

-- and with nothing of the node's own
pub none_behind : {A : Type 0} (a b : List A) → b ≡ [] → a ≡ a ++ [] ++ b
none_behind a b h = rw h (one_apart a ∙ one_apart (a ++ []))

pub one_none : {A : Type 0} (a : List A) → a ≡ [] → a ++ [] ≡ []
one_none a h = rw h refl

pub two_none : {A : Type 0} (a b : List A) → a ≡ [] → b ≡ [] → a ++ (b ++ []) ≡ []
two_none a b h k = rw (h, k) refl

pub three_none : {A : Type 0} (a b c : List A) → a ≡ [] → b ≡ [] → c ≡ [] → a ++ (b ++ (c ++ [])) ≡ []
three_none a b c h k l = rw (h, k, l) refl
