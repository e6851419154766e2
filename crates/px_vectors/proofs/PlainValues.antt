-- The values of keys and aggregations.
use Rattle.std.proofs.Common.{◌≡◌, ℕ, ◌+◌, ◌<◌, List, [], ◌∷◌, ◌++◌, Option, Some, None, Result, Ok, Err, length, map, drop, get_or, refl, sym, ◌∙◌, ap, add-one, append_assoc, drop-cons, option_map, option_and_then}
use Rattle.std.proofs.lemmas.List.{map_push}
use Rattle.std.specs.Option.{ok_or, option_map_or}
use Rattle.px_column.specs.Prelude.{Answers, kind_of, Datum, integer, Slot, Kind, Series, slot_at, slot_of, slots_of}
use Rattle.px_column.specs.Sum.{sum_kind, summed, total, wrapped}
use Rattle.px_value.specs.declared.value.Value.{Value}
use Rattle.px_value.specs.declared.method.GroupByMethod.TheVariants.{Sum}
use Rattle.px_frame.specs.Cell.{value_of_cell}
use Rattle.px_frame.specs.External.{alone}
use Rattle.px_frame.specs.Frame.{look, series_at, slots_at, subframe}
use Rattle.px_frame.specs.Groups.{first_row}
use Rattle.px_frame.specs.Schema.{column_field}
use Rattle.px_frame.proofs.LookLaws.{look_rows}
use Rattle.px_column.specs.Option.{each}
use Rattle.px_value.proofs.EachLaws.{each_some}
use Rattle.px_value.specs.declared.error.PxError.{PxError}
use Rattle.px_value.specs.declared.error.PxError.TheVariants.{ColumnNotFound, InvalidOperation}
use Rattle.px_value.specs.declared.error.InvalidWhy.TheVariants.{Types}
use Rattle.px_tree.specs.Shape.{name_of}
use Rattle.px_tree.specs.Typing.{kind_in}
use Rattle.px_tree.specs.Value.{value_on}
use Rattle.px_tree.specs.Tree.{Tree, column, agg}
use Rattle.px_steps.specs.Meets.{Meets, MeetsBy, unless_refused}
use Rattle.px_steps.proofs.Named.{refuses_none}
use Rattle.px_value.specs.declared.data_type.DataType.{DataType}
use Rattle.px_steps.specs.Plain.{agg_refusals}
use Rattle.px_tree.specs.Grouped.{aggregated_on, grouped_kind, key_values, value_on_part}
use Rattle.px_vectors.specs.PlainStep.{tree_of, value_at_part}
use Rattle.px_vectors.specs.declared.plain_step.Aggregation.{Aggregation}
use Rattle.px_vectors.specs.declared.plain_step.Aggregation.TheVariants.{Sum as Sum_of, Len}
use Rattle.px_vectors.proofs.PlainKeys.{kind_found, kind_missing}

first_slots : (xs : List Slot) (ps : List (List ℕ)) → slots_at xs (map first_row ps) ≡ map (λ p. slot_at xs (first_row p)) ps
first_slots xs [] = refl
first_slots xs (p ∷ ps) = ap (λ ys. slot_at xs (first_row p) ∷ ys) (first_slots xs ps)

-- the keys at the first rows
pub first_keys : (ps : List (List ℕ)) (by : List Series) → subframe by (map first_row ps) ≡ map (key_values ps) by
first_keys ps [] = refl
first_keys ps (s ∷ by) = λ i. record s { slots = first_slots s.slots ps i } ∷ first_keys ps by i

-- the sum of all rows, in the type that was found
pub sum_found : (xs : List Slot) (o : Option Kind) (k : Kind) (d : Datum) → Some k ≡ o → d ≡ integer (wrapped k (total xs)) → option_map_or (λ j. summed j xs) o None ≡ Some d
sum_found xs o k d h e = rw (← h) (ap Some (sym e))

-- the value of a sum on a frame
pub sum_value : (frame : List Series) (n : List ℕ) (s : Series) → Some s ≡ look n frame → option_map_or value_of_cell (value_on (agg Sum (column n)) (alone frame)) None ≡ option_map_or (λ k. summed k s.slots) (sum_kind s.kind) None
sum_value frame n s h = by (sum_kind s.kind) refl
  where
    there : look n frame ≡ Some s
    there = sym h

    by : (o : Option Kind) → sum_kind s.kind ≡ o → option_map_or value_of_cell (value_on (agg Sum (column n)) (alone frame)) None ≡ option_map_or (λ k. summed k s.slots) o None
    by None e = rw (there, kind_found frame n s h, e) refl
    by (Some k) e = rw (there, kind_found frame n s h, e) refl

pub sum_missing : (frame : List Series) (n : List ℕ) → None ≡ look n frame → option_map_or value_of_cell (value_on (agg Sum (column n)) (alone frame)) None ≡ None
sum_missing frame n h = let there : look n frame ≡ None = sym h in rw (there, kind_missing frame n h) refl

-- the type of a sum, and why it has none
pub sum_typed : (frame : List Series) (n : List ℕ) (s : Series) → Some s ≡ look n frame → kind_in (agg Sum (column n)) (map column_field frame) ≡ sum_kind s.kind
sum_typed frame n s h = by (sum_kind s.kind) refl
  where
    by : (o : Option Kind) → sum_kind s.kind ≡ o → kind_in (agg Sum (column n)) (map column_field frame) ≡ o
    by None e = rw (kind_found frame n s h, e) refl
    by (Some k) e = rw (kind_found frame n s h, e) refl

sum_passes : (frame : List Series) (n : List ℕ) (s : Series) (k : Kind) → Some s ≡ look n frame → sum_kind s.kind ≡ Some k → agg_refusals (alone frame) (agg Sum (column n)) ≡ []
sum_passes frame n s k h e = rw (kind_found frame n s h, e) refl

sum_refused : (frame : List Series) (n : List ℕ) (s : Series) → Some s ≡ look n frame → sum_kind s.kind ≡ None → agg_refusals (alone frame) (agg Sum (column n)) ≡ InvalidOperation Types ∷ []
sum_refused frame n s h e = rw (kind_found frame n s h, e) refl

pub sum_meets : (frame : List Series) (n : List ℕ) (s : Series) (o : Option DataType) → Some s ≡ look n frame → option_map kind_of o ≡ sum_kind s.kind
    → MeetsBy kind_of (ok_or o (InvalidOperation Types)) (agg_refusals (alone frame) (agg Sum (column n))) (kind_in (agg Sum (column n)) (map column_field frame))
sum_meets frame n s None h k = ap unless_refused (sum_refused frame n s h (sym k))
sum_meets frame n s (Some d) h k = (sum_passes frame n s (kind_of d) h (sym k), sum_typed frame n s h ∙ sym k)

pub sum_not_found : (frame : List Series) (n : List ℕ) → None ≡ look n frame → agg_refusals (alone frame) (agg Sum (column n)) ≡ ColumnNotFound n ∷ []
sum_not_found frame n h = rw (kind_missing frame n h) refl

-- the names and types of some rows are the frame's
fields_same : (frame : List Series) (rows : List ℕ) → map column_field (subframe frame rows) ≡ map column_field frame
fields_same [] rows = refl
fields_same (s ∷ frame) rows = ap (λ fs. column_field s ∷ fs) (fields_same frame rows)

pub kind_on_rows : (p : List ℕ) (e : Tree) (frame : List Series) → kind_in e (map column_field (subframe frame p)) ≡ kind_in e (map column_field frame)
kind_on_rows p e frame = ap (kind_in e) (fields_same frame p)

-- an aggregation that has a type has a value on each part
value_there : (frame : List Series) (a : Aggregation) (k : Kind) → kind_in (tree_of a) (map column_field frame) ≡ Some k → (p : List ℕ) → value_on_part (alone frame) (tree_of a) p ≡ Some (value_at_part frame (tree_of a) p)
value_there frame Len k h p = refl
value_there frame (Sum_of n) k h p = by (look n frame) refl
  where
    typed : (s : Series) → look n frame ≡ Some s → (o : Option Kind) → sum_kind s.kind ≡ o → o ≡ Some k → value_on_part (alone frame) (agg Sum (column n)) p ≡ Some (value_at_part frame (agg Sum (column n)) p)
    typed s e None t q = cc
    typed s e (Some j) t q =
        let there : look n (subframe frame p) ≡ Some (series_at p s) = look_rows n frame p ∙ ap (option_map (series_at p)) e in
        rw (there, kind_found (subframe frame p) n (series_at p s) (sym there), t) refl

    by : (o : Option Series) → look n frame ≡ o → value_on_part (alone frame) (agg Sum (column n)) p ≡ Some (value_at_part frame (agg Sum (column n)) p)
    by None e = let none : kind_in (agg Sum (column n)) (map column_field frame) ≡ None = rw (kind_missing frame n (sym e)) refl in absurd (cc (none, h))
    by (Some s) e = typed s e (sum_kind s.kind) refl (sym (sum_typed frame n s (sym e)) ∙ h)

-- the column of its values
pub column_made : (frame : List Series) (a : Aggregation) (k : Kind) (name : List ℕ) (xs : List Slot) (parts : List (List ℕ)) → kind_in (tree_of a) (map column_field frame) ≡ Some k → name ≡ name_of (tree_of a)
    → xs ≡ map (value_at_part frame (tree_of a)) parts → aggregated_on (alone frame) parts (tree_of a) ≡ Some (record { name = name; kind = k; slots = xs })
column_made frame a k name xs parts h n v =
    ap (λ o. option_and_then (λ j. option_and_then (λ vs. Some (record { name = name_of (tree_of a); kind = grouped_kind (tree_of a) j; slots = vs })) (each (value_on_part (alone frame) (tree_of a)) parts)) o) h
    ∙ ap (λ o. option_and_then (λ vs. Some (record { name = name_of (tree_of a); kind = grouped_kind (tree_of a) k; slots = vs })) o) (each_some (value_on_part (alone frame) (tree_of a)) (value_at_part frame (tree_of a)) parts (value_there frame a k h))
    ∙ (λ i. Some (record { name = sym n i; kind = unit_kind a i; slots = sym v i }))
  where
    unit_kind : (a : Aggregation) → grouped_kind (tree_of a) k ≡ k
    unit_kind Len = refl
    unit_kind (Sum_of n) = refl

-- an answer of what is made
pub meets_made : {X : Type 0} (r : Result X PxError) (x : X) (refusals : List PxError) (plain : Option X) → refusals ≡ [] → plain ≡ Some x → Answers r (Ok x) → Meets r refusals plain
meets_made (Ok y) x refusals plain n p a = let same : x ≡ y = cc in (n, p ∙ ap Some same)
meets_made (Err e) x refusals plain n p a = refuses_none e x refusals a

-- one more part's value
pub part_next : {V : Type 0} (items : V → List ℕ) (f : List ℕ → Slot) (parts : List V) (i : ℕ) (p : V) (whole : List Slot) (values new : List (Option Value)) (v : Option Value)
    → i < length parts → p ≡ get_or parts i p → new ≡ values ++ v ∷ [] → slot_of v ≡ f (items p)
    → whole ≡ slots_of values ++ map f (map items (drop i parts)) → whole ≡ slots_of new ++ map f (map items (drop (i + 1) parts))
part_next items f parts i p whole values new v lt is pushed value h =
    let rest = map f (map items (drop (i + 1) parts)) in
    let left : drop i parts ≡ p ∷ drop (i + 1) parts = drop-cons parts i p lt ∙ (λ j. sym is j ∷ drop (sym (add-one i) j) parts) in
    let made : slots_of new ≡ slots_of values ++ f (items p) ∷ [] = ap slots_of pushed ∙ map_push slot_of values v ∙ ap (λ s. slots_of values ++ s ∷ []) value in
    h ∙ ap (λ ps. slots_of values ++ map f (map items ps)) left ∙ sym (append_assoc (slots_of values) (f (items p) ∷ []) rest) ∙ ap (λ xs. xs ++ rest) (sym made)
