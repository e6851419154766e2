-- The value and the causes of rows in the order of others, from the cells of their inputs.
use Rattle.std.proofs.Common.{◌≡◌, ℕ, ◌≤◌, ◌^◌, Bool, true, false, cond, List, [], ◌∷◌, ◌++◌, Some, Result, Ok, Err, ◌⊎◌, inl, inr, length, refl, sym, ◌∙◌, ap, subst, arith}
use Rattle.std.specs.List.{list_any}
use Rattle.px_column.specs.Prelude.{Slot, Kind, Refuses, is_list_kind}
use Rattle.px_column.specs.Order.{sort_keys, sorted_rows}
use Rattle.px_column.specs.Result.{◌>>=◌}
use Rattle.px_value.specs.declared.error.PxError.{PxError}
use Rattle.px_value.specs.declared.error.PxError.TheVariants.{InvalidOperation, ShapeMismatch}
use Rattle.px_value.specs.declared.error.InvalidWhy.TheVariants.{ListKey}
use Rattle.px_frame.specs.Cell.{Cell, rows, list_of, is_unit_cell}
use Rattle.px_frame.specs.External.{Frame, scope_of}
use Rattle.px_frame.specs.Frame.{slots_at}
use Rattle.px_frame.specs.Spread.{NamedCell, column_of_cell, spread}
use Rattle.px_nodes.specs.Named.{cells_in, kinds_of, sort_by_named, under}
use Rattle.px_tree.specs.Node.{sort_by_cell, spread_keys}
use Rattle.px_tree.specs.Size.{sizes_on}
use Rattle.px_tree.specs.Typing.{or_first, own_refusals}
use Rattle.px_tree.specs.Value.{all_faults_on, fault_in, faults_on, outcome_on}
use Rattle.px_tree.specs.Value.{made as valued}
use Rattle.px_tree.specs.declared.context.Context.TheVariants.{Default}
use Rattle.px_answers.specs.Parts.{PlannedSortBy, plan_trees, sort_by_plan}
use Rattle.px_answers.specs.Value.{AreCellsOf, IsCause, IsCauseOfAny, IsCellOf, IsOneOf, IsValue, causes_on}
use Rattle.px_answers.proofs.Cells.{cell_is_value}
use Rattle.px_answers.proofs.Inputs.{IsAnswer, IsNode, all_faults_apart, all_refusals_apart, refused_cause}
use Rattle.px_answers.proofs.Plain.{is_plain}
use Rattle.px_answers.proofs.Applied.{invalid_cause, shape_cause, spread_refused}
use Rattle.px_answers.proofs.InputLists.{AreInputs, among_right, cause_of_first, cause_of_inputs, cause_of_others, inputs_of}

two_refusals : {X Y Z : Type 0} (a : Result X PxError) (b : Result Y PxError) (make : X → Y → Z) (e : PxError) → (a >>= λ x. b >>= λ y. Ok (make x y)) ≡ Err e → (a ≡ Err e) ⊎ (b ≡ Err e)
two_refusals (Err w) b make e h = let same : w ≡ e = cc in inl (ap Err same)
two_refusals (Ok x) (Err w) make e h = let same : w ≡ e = cc in inr (ap Err same)
two_refusals (Ok x) (Ok y) make e h = absurd (cc h)

-- a key that cannot stand at so many rows
keys_refused : (n : ℕ) (cs : List Cell) (e : PxError) → spread_keys n cs ≡ Err e → e ≡ ShapeMismatch
keys_refused n [] e h = absurd (cc h)
keys_refused n (c ∷ cs) e h = by (keys_refused n cs e) (two_refusals (spread n c) (spread_keys n cs) (λ xs others. xs ∷ others) e h)
  where
    by : (spread_keys n cs ≡ Err e → e ≡ ShapeMismatch) → (spread n c ≡ Err e) ⊎ (spread_keys n cs ≡ Err e) → e ≡ ShapeMismatch
    by rest (inl k) = spread_refused n c e k
    by rest (inr k) = rest k

fault_of_keys : (keys : Result (List (List Slot)) PxError) (make : List (List Slot) → Cell) (e : PxError) → (keys >>= λ ks. Ok (make ks)) ≡ Err e → keys ≡ Err e
fault_of_keys (Err w) make e h = let same : w ≡ e = cc in ap Err same
fault_of_keys (Ok ks) make e h = absurd (cc h)

rows_of_keys : (keys : Result (List (List Slot)) PxError) (make : List (List Slot) → List Slot) (d : Cell) → (keys >>= λ ks. Ok (rows (make ks))) ≡ Ok d → is_unit_cell d ≡ false
rows_of_keys (Err w) make d h = absurd (cc h)
rows_of_keys (Ok ks) make d h = let same : rows (make ks) ≡ d = cc in ap is_unit_cell (sym same)

-- what sorted rows were made of
record IsSortedFrom (lists : Bool) (made : Result Cell PxError) (c d : NamedCell) : Type 0 where
  pub no_list : lists ≡ false
  pub cell_is : made ≡ Ok d.cell
  pub name_is : c.name ≡ d.name
  pub kind_is : c.kind ≡ d.kind

sorted_from : (lists : Bool) (made : Result Cell PxError) (c d : NamedCell) → cond lists (Err (InvalidOperation ListKey)) (under c.name c.kind made) ≡ Ok d → IsSortedFrom lists made c d
sorted_from true made c d h = absurd (cc h)
sorted_from false (Err w) c d h = absurd (cc h)
sorted_from false (Ok x) c d h =
    let same : record { name = c.name; kind = c.kind; cell = x } ≡ d = cc in
    record { no_list = refl; cell_is = ap (λ (y : NamedCell). Ok y.cell) same; name_is = ap (λ (y : NamedCell). y.name) same; kind_is = ap (λ (y : NamedCell). y.kind) same }

unsorted : (lists : Bool) (made : Result Cell PxError) (c : NamedCell) (e : PxError) → cond lists (Err (InvalidOperation ListKey)) (under c.name c.kind made) ≡ Err e → ((lists ≡ true) × (e ≡ InvalidOperation ListKey)) ⊎ (made ≡ Err e)
unsorted true made c e h = let same : InvalidOperation ListKey ≡ e = cc in inl (refl, sym same)
unsorted false (Err w) c e h = let same : w ≡ e = cc in inr (ap Err same)
unsorted false (Ok x) c e h = absurd (cc h)

module _ (s : PlannedSortBy) (f : Frame) (c : NamedCell) (cs : List NamedCell) (is : IsCellOf s.input f c) (are : AreCellsOf s.by f cs) where
  keys : AreInputs s.by f cs
  keys = inputs_of s.by f cs are

  all : AreInputs (s.input ∷ s.by) f (c ∷ cs)
  all = inputs_of (s.input ∷ s.by) f (c ∷ cs) (is, are)

  outcome : outcome_on (sort_by_plan s).tree f ≡ Some (sort_by_cell s.sort_options c.cell (cells_in cs))
  outcome = rw (is.value, keys.cells) refl

  list_cause : list_any is_list_kind (kinds_of cs) ≡ true → IsOneOf (InvalidOperation ListKey) (causes_on (sort_by_plan s) f)
  list_cause h = rw (all.refused, keys.kinds, h) (inl refl)

  fault_among : (e : PxError) → sort_by_cell s.sort_options c.cell (cells_in cs) ≡ Err e → IsOneOf e (faults_on (sort_by_plan s).tree f)
  fault_among e h =
      among_right e (all_faults_on (plan_trees (s.input ∷ s.by)) f) (fault_in (outcome_on (sort_by_plan s).tree f)) (subst (λ o. IsOneOf e (fault_in o)) (sym (outcome ∙ ap Some h)) (inl refl))

  fault_cause : (e : PxError) → sort_by_cell s.sort_options c.cell (cells_in cs) ≡ Err e → IsOneOf e (causes_on (sort_by_plan s) f)
  fault_cause e h = among_right e _ (faults_on (sort_by_plan s).tree f) (fault_among e h)

  pub sort_by_cell_of : (d : NamedCell) → sort_by_named s.sort_options c cs ≡ Ok d → IsCellOf (sort_by_plan s) f d
  sort_by_cell_of d h = record {
    sound = rw (all.refused, keys.kinds, made.no_list, all.found, all.fits, all.faults, outcome, made.cell_is) refl;
    name = sym made.name_is ∙ is.name;
    kind = is.kind ∙ ap Some made.kind_is;
    value = ap valued (outcome ∙ ap Some made.cell_is);
    shape = of_rows;
  }
    where
      made : IsSortedFrom (list_any is_list_kind (kinds_of cs)) (sort_by_cell s.sort_options c.cell (cells_in cs)) c d
      made = sorted_from (list_any is_list_kind (kinds_of cs)) (sort_by_cell s.sort_options c.cell (cells_in cs)) c d h

      of_rows : is_unit_cell d.cell ≡ false
      of_rows = rows_of_keys (spread_keys (length (list_of c.cell)) (cells_in cs)) (λ ks. slots_at (list_of c.cell) (sorted_rows (sort_keys s.sort_options ks) (length (list_of c.cell)))) d.cell made.cell_is

  pub sort_by_answer : IsAnswer (sort_by_plan s) f (cond (list_any is_list_kind (kinds_of cs)) (Err (InvalidOperation ListKey)) (Ok c.kind)) (sort_by_named s.sort_options c cs)
  sort_by_answer = by (sort_by_named s.sort_options c cs) refl
    where
      typed : Result Kind PxError
      typed = cond (list_any is_list_kind (kinds_of cs)) (Err (InvalidOperation ListKey)) (Ok c.kind)

      unequal : (e : PxError) → sort_by_cell s.sort_options c.cell (cells_in cs) ≡ Err e → e ≡ ShapeMismatch
      unequal e k =
          keys_refused (length (list_of c.cell)) (cells_in cs) e
          (fault_of_keys (spread_keys (length (list_of c.cell)) (cells_in cs)) (λ ks. rows (slots_at (list_of c.cell) (sorted_rows (sort_keys s.sort_options ks) (length (list_of c.cell))))) e k)

      told : (e : PxError) → ((list_any is_list_kind (kinds_of cs) ≡ true) × (e ≡ InvalidOperation ListKey)) ⊎ (sort_by_cell s.sort_options c.cell (cells_in cs) ≡ Err e) → IsAnswer (sort_by_plan s) f typed (Err e)
      told e (inl k) = inl (rw (k.0, k.1) refl)
      told e (inr k) = inr (inl (subst (λ x. is_plain x ≡ true) (sym (unequal e k)) refl, fault_among e k))

      by : (r : Result NamedCell PxError) → sort_by_named s.sort_options c cs ≡ r → IsAnswer (sort_by_plan s) f typed r
      by (Ok d) h = sort_by_cell_of d h
      by (Err e) h = told e (unsorted (list_any is_list_kind (kinds_of cs)) (sort_by_cell s.sort_options c.cell (cells_in cs)) c e h)

  pub sort_by_value : (d : NamedCell) → sort_by_named s.sort_options c cs ≡ Ok d → IsValue (sort_by_plan s) f (column_of_cell d)
  sort_by_value d h = cell_is_value (sort_by_plan s) f d (sort_by_cell_of d h)

  sort_by_cause : (e : PxError) → sort_by_named s.sort_options c cs ≡ Err e → IsCause e (sort_by_plan s) f
  sort_by_cause e h = by (unsorted (list_any is_list_kind (kinds_of cs)) (sort_by_cell s.sort_options c.cell (cells_in cs)) c e h)
    where
      by : ((list_any is_list_kind (kinds_of cs) ≡ true) × (e ≡ InvalidOperation ListKey)) ⊎ (sort_by_cell s.sort_options c.cell (cells_in cs) ≡ Err e) → IsCause e (sort_by_plan s) f
      by (inl k) = invalid_cause e ListKey (sort_by_plan s) f k.1 (subst (λ x. IsOneOf x (causes_on (sort_by_plan s) f)) (sym k.1) (list_cause k.0))
      by (inr k) = shape_cause e (sort_by_plan s) f (keys_refused (length (list_of c.cell)) (cells_in cs) e (fault_of_keys (spread_keys (length (list_of c.cell)) (cells_in cs)) (λ ks. rows (slots_at (list_of c.cell) (sorted_rows (sort_keys s.sort_options ks) (length (list_of c.cell))))) e k)) (fault_cause e k)

  pub sort_by_refusal : (e : PxError) → Refuses e (sort_by_named s.sort_options c cs) → IsCause e (sort_by_plan s) f
  sort_by_refusal e h = refused_cause e (sort_by_named s.sort_options c cs) (sort_by_plan s) f (sort_by_cause e) h

-- what rows in the order of others have of these and of the others
pub sort_by_node : (s : PlannedSortBy) (f : Frame) → IsNode (sort_by_plan s) (s.input ∷ s.by) f
sort_by_node s f = record {
  refusals = λ place. ap (λ rs. or_first rs (own_refusals (sort_by_plan s).tree (scope_of f) place)) (all_refusals_apart (scope_of f) place (s.input ∷ s.by));
  columns = refl;
  faults = ap (λ es. es ++ fault_in (outcome_on (sort_by_plan s).tree f)) (all_faults_apart f (s.input ∷ s.by));
  sizes = λ fs. omega arith;
}

-- a cause of the rows, or of a key, is the sort's
all_cause : (e : PxError) (s : PlannedSortBy) (f : Frame) → IsCauseOfAny e (s.input ∷ s.by) f → IsCause e (sort_by_plan s) f
all_cause e s f h =
    cause_of_inputs e (s.input ∷ s.by) (sort_by_plan s) f (own_refusals (sort_by_plan s).tree (scope_of f) Default) (fault_in (outcome_on (sort_by_plan s).tree f)) refl refl refl
    (λ (b : 2 ^ 32 ≤ sizes_on (plan_trees (s.input ∷ s.by)) (f ∷ [])). omega (arith, b)) h

pub sort_by_input_cause : (e : PxError) (s : PlannedSortBy) (f : Frame) → IsCause e s.input f → IsCause e (sort_by_plan s) f
sort_by_input_cause e s f h = all_cause e s f (cause_of_first e s.input s.by f h)

pub sort_by_key_cause : (e : PxError) (s : PlannedSortBy) (f : Frame) → IsCauseOfAny e s.by f → IsCause e (sort_by_plan s) f
sort_by_key_cause e s f h = all_cause e s f (cause_of_others e s.input s.by f h)
