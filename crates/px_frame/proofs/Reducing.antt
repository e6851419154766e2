-- What a column holds at a group's rows, row by row, and one reduction for each group.
use Rattle.std.proofs.Common.{◌≡◌, ℕ, zero, suc, ◌+◌, ◌^◌, ◌<◌, ◌&&◌, Bool, true, cond, List, [], ◌∷◌, ◌++◌, Option, Some, None, Result, Ok, Err, length, map, slice_get, slice_index, sum, nat_lt, take, add-one, refl, sym, ◌∙◌, ap, arith}
use Rattle.std.proofs.lemmas.List.{length-map, length-take}
use Rattle.px_column.specs.Prelude.{Slot, Kind, slot_fits, slots_fit, Series, slot_at}
use Rattle.px_value.proofs.FitLaws.{fits_at}
use Rattle.px_column.specs.Reduction.{kind_there, reduced_kind, reduced_slot, sum_slot}
use Rattle.px_column.specs.Sum.{sum_kind}
use Rattle.px_value.specs.declared.error.PxError.{PxError}
use Rattle.px_value.specs.declared.error.PxError.TheVariants.{ComputeError}
use Rattle.px_value.specs.declared.error.ComputeWhy.TheVariants.{TooLong}
use Rattle.px_value.specs.declared.method.GroupByMethod.{GroupByMethod}
use Rattle.px_value.specs.declared.method.GroupByMethod.TheVariants.{Sum, Implode}
use Rattle.px_column.proofs.Reducing.{fits_reduced}
use Rattle.px_frame.specs.Aggregate.{summed_by, summed_by_kind}
use Rattle.px_frame.specs.Frame.{slots_at}
use Rattle.px_frame.specs.Groups.{Group, Groups, lengths_of, rows_of}
use Rattle.px_frame.specs.GroupsView.{groups_of, with_rolling}
use Rattle.px_frame.specs.declared.groups.GroupsType.{GroupsType}
use Rattle.px_frame.specs.declared.groups.GroupsType.TheVariants.{Idx, Slice}
use Rattle.px_frame.specs.Reduced.{listed_by, reduced_at, reduced_by, reduced_by_as}
use Rattle.px_frame.proofs.Each.{map_next}

-- what stands at the rows up to one more
pub slots_next : (xs : List Slot) (rows : List ℕ) (i : ℕ) (s : Slot) → i < length rows → s ≡ slot_at xs (slice_index rows i) → slots_at xs (take i rows) ++ s ∷ [] ≡ slots_at xs (take (i + 1) rows)
slots_next xs [] i s h e = absurd (omega arith)
slots_next xs (r ∷ rows) zero s h e = ap (λ (t : Slot). t ∷ []) e
slots_next xs (r ∷ rows) (suc i) s h e = rw add-one (ap (λ (ys : List Slot). slot_at xs r ∷ ys) (slots_next xs rows i s (omega arith) e) ∙ rw add-one refl)

-- there is room for one more before the last
pub slots_room : (xs : List Slot) (rows : List ℕ) (i : ℕ) → i < length rows → length rows < 2 ^ 32 → length (slots_at xs (take i rows)) + 1 < 2 ^ 32
slots_room xs rows i h j = rw (length-map (take i rows) (slot_at xs)) (omega (arith, length-take i rows))

-- what stands at rows of a column fits its type
pub slots_at_fit : (k : Kind) (xs : List Slot) (rows : List ℕ) → slots_fit k xs ≡ true → slots_fit k (slots_at xs rows) ≡ true
slots_at_fit k xs [] h = refl
slots_at_fit k xs (r ∷ rows) h = λ i. fits_at k xs r h i && slots_at_fit k xs rows h i

pub length_slots_at : (xs : List Slot) (rows : List ℕ) → length (slots_at xs rows) ≡ length rows
length_slots_at xs rows = length-map rows (slot_at xs)

-- what stands at a place of those rows
pub slot_at_rows : (xs : List Slot) (rows : List ℕ) (i : ℕ) → i < length rows → slot_at (slots_at xs rows) i ≡ slot_at xs (slice_index rows i)
slot_at_rows xs [] i h = absurd (omega (arith, h))
slot_at_rows xs (r ∷ rows) zero h = refl
slot_at_rows xs (r ∷ rows) (suc i) h = slot_at_rows xs rows i (omega (arith, h))

-- a reduction at some rows fits its type
pub reduced_at_fits : (m : GroupByMethod) (s : Series) (k : Kind) (p : Group) → slots_fit s.kind s.slots ≡ true → length p.rows < 2 ^ 32 → reduced_kind m s.kind ≡ Ok k → slot_fits k (reduced_at m s p) ≡ true
reduced_at_fits m s k p fit few e =
    fits_reduced m s.kind k (slots_at s.slots p.rows) (slots_at_fit s.kind s.slots p.rows fit) (omega (arith, length-map p.rows (slot_at s.slots), few)) e

-- the rows of one group more
pub reduced_next : (f : Group → Slot) (groups : List Group) (i : ℕ) (p : Group) (rows new : Series) (s : Slot) (n : List ℕ) (k : Kind) → new ≡ record rows { slots = rows.slots ++ s ∷ [] }
    → rows ≡ record { name = n; kind = k; slots = map f (take i groups) } → slice_get groups i ≡ Some p → s ≡ f p → new ≡ record { name = n; kind = k; slots = map f (take (i + 1) groups) }
reduced_next f groups i p rows new s n k e r at same =
    e ∙ (λ j. record { name = (r j).name; kind = (r j).kind; slots = (r j).slots ++ same j ∷ [] }) ∙ (λ j. record { name = n; kind = k; slots = sym (map_next f groups i p at) j })

-- the type of rows that are built
pub kind_is : (n : List ℕ) (k : Kind) (xs : List Slot) (rows : Series) → rows ≡ record { name = n; kind = k; slots = xs } → rows.kind ≡ k
kind_is n k xs rows e = ap (λ s. s.kind) e

-- sums with the type of sums apart
abbrev summed_as : Option Kind → Series → Groups → Result Kind PxError → Result Series PxError
summed_as o s g (Ok k) = Ok (record { name = s.name; kind = k; slots = map (λ p. sum_slot o (slots_at s.slots p.rows)) g.groups })
summed_as o s g (Err e) = Err e

-- the sums of groups are their reductions
pub sums_are_reductions : (s : Series) (g : Groups) → reduced_by Sum s g ≡ summed_by s g
sums_are_reductions s g = apart (kind_there (sum_kind s.kind)) ∙ by (sum_kind s.kind)
  where
    apart : (r : Result Kind PxError) → reduced_by_as Sum s g r ≡ summed_as (sum_kind s.kind) s g r
    apart (Ok k) = refl
    apart (Err e) = refl

    by : (o : Option Kind) → summed_as o s g (kind_there o) ≡ summed_by_kind o s g
    by None = refl
    by (Some k) = refl

-- the reductions are told by the rows alone
by_rows : (m : GroupByMethod) (s : Series) (ps : List Group) → map (reduced_at m s) ps ≡ map (λ rows. reduced_slot m s.kind (slots_at s.slots rows)) (map (λ p. p.rows) ps)
by_rows m s [] = refl
by_rows m s (p ∷ ps) = ap (λ (xs : List Slot). reduced_at m s p ∷ xs) (by_rows m s ps)

-- groups of the same rows are reduced alike
pub rows_reduce_alike : (m : GroupByMethod) (s : Series) (a b : Groups) → rows_of a ≡ rows_of b → reduced_by m s a ≡ reduced_by m s b
rows_reduce_alike m s a b e = by (reduced_kind m s.kind)
  where
    slots : map (reduced_at m s) a.groups ≡ map (reduced_at m s) b.groups
    slots = by_rows m s a.groups ∙ ap (map (λ rows. reduced_slot m s.kind (slots_at s.slots rows))) e ∙ sym (by_rows m s b.groups)

    by : (r : Result Kind PxError) → reduced_by_as m s a r ≡ reduced_by_as m s b r
    by (Ok k) = λ i. Ok (record { name = s.name; kind = k; slots = slots i })
    by (Err x) = refl

lengths_by_rows : (ps : List Group) → map (λ p. length p.rows) ps ≡ map length (map (λ p. p.rows) ps)
lengths_by_rows [] = refl
lengths_by_rows (p ∷ ps) = ap (λ (ns : List ℕ). length p.rows ∷ ns) (lengths_by_rows ps)

-- and are listed alike
pub rows_list_alike : (s : Series) (a b : Groups) → rows_of a ≡ rows_of b → listed_by s a ≡ listed_by s b
rows_list_alike s a b e =
    let lengths : lengths_of a ≡ lengths_of b = lengths_by_rows a.groups ∙ ap (map length) e ∙ sym (lengths_by_rows b.groups) in
    λ i. cond (nat_lt (sum (lengths i)) (2 ^ 32)) (rows_reduce_alike Implode s a b e i) (Err (ComputeError TooLong))

-- whether slices roll changes no group
pub rolling_alike : (kept : GroupsType) (rolling : Bool) → groups_of (with_rolling rolling kept) ≡ groups_of kept
rolling_alike (Idx v) rolling = refl
rolling_alike (Slice v was) rolling = refl
