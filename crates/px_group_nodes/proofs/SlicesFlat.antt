-- A slice of flat rows, where the offset and the length are unit literals.
use Rattle.std.proofs.Common.{◌≡◌, ◌⊎◌, inl, inr, ℕ, ℤ, Bool, ◌&&◌, ◌<◌, true, false, List, [], ◌∷◌, Option, Result, Ok, Err, length, map, refl, subst, sym, ap, ◌∙◌, arith, if◌then◌else◌}
use Rattle.std.proofs.lemmas.List.{length-map}
use Rattle.px_column.specs.Function.{window_of}
use Rattle.px_column.specs.Prelude.{Kind, Refuses, Series, Slot, slot_at}
use Rattle.px_column.specs.Result.{◌>>=◌}
use Rattle.px_value.specs.declared.error.InvalidWhy.TheVariants.{Types}
use Rattle.px_value.specs.declared.error.PxError.{PxError}
use Rattle.px_value.specs.declared.error.PxError.TheVariants.{InvalidOperation, OutOfMemory}
use Rattle.px_frame.specs.Cell.{Cell, unit, rows, list_of}
use Rattle.px_frame.specs.Frame.{slots_at}
use Rattle.px_frame.specs.Groups.{Group, Groups, rows_of}
use Rattle.px_frame.specs.Spread.{NamedCell}
use Rattle.px_tree.specs.Node.{length_of, offset_of, slice_cell}
use Rattle.px_tree.specs.Typing.{is_integer_or_null}
use Rattle.px_nodes.specs.Named.{slice_named, under}
use Rattle.px_context.specs.Built.{is_flat, is_unit_literal, with_other_groups}
use Rattle.px_context.specs.Context.{Context, cell_kind, cells_in, has_units}
use Rattle.px_context.specs.declared.agg_state.Layout.{Layout}
use Rattle.px_context.specs.declared.agg_state.Layout.TheVariants.{Lists, Scalars, Flat, Rows, Unit as Single}
use Rattle.px_lanes.specs.Made.{HasFault, IsRefusal, named_cells}
use Rattle.px_lanes.proofs.Joining.{named}
use Rattle.px_group_nodes.specs.Slice.{IsSliced, slice_answers, slice_kind}
use Rattle.px_group_nodes.specs.Three.{answers_of_three}
use Rattle.px_group_nodes.specs.Windows.{rows_window, window_by, windows_of}
use Rattle.px_value.proofs.Refusing.{refuses_or}
use Rattle.px_group_nodes.proofs.Windows.{window_slots}

module _ {A B C : Type 0} where
  fused : (f : B → C) (g : A → B) (xs : List A) → map f (map g xs) ≡ map (λ x. f (g x)) xs
  fused f g [] = refl
  fused f g (x ∷ xs) = ap (λ ys. f (g x) ∷ ys) (fused f g xs)

abbrev window_ok : ℤ × Option ℤ → Result (ℤ × Option ℤ) PxError
window_ok w = Ok w

abbrev kind_ok : Kind → Result Kind PxError
kind_ok k = Ok k

unit_cells_in : (l : Layout) (s : Series) (g : Groups) → is_unit_literal l ≡ true → cells_in l s g ≡ map (λ p. unit (slot_at s.slots 0)) g.groups
unit_cells_in Single s g h = refl
unit_cells_in Lists s g h = cc
unit_cells_in Scalars s g h = cc
unit_cells_in Flat s g h = cc
unit_cells_in Rows s g h = cc

-- the cells of a unit literal
unit_cells : (c : Context) → is_unit_literal c.layout ≡ true → named_cells c ≡ map (λ p. named c.values.name (cell_kind c) (unit (slot_at c.values.slots 0))) c.groups.groups
unit_cells c h =
    ap (map (named c.values.name (cell_kind c))) (unit_cells_in c.layout c.values c.groups h)
    ∙ fused (named c.values.name (cell_kind c)) (λ (p : Group). unit (slot_at c.values.slots 0)) c.groups.groups

flat_cells_in : (l : Layout) (s : Series) (g : Groups) → is_flat l ≡ true → cells_in l s g ≡ map (λ r. rows (slots_at s.slots r)) (rows_of g)
flat_cells_in Flat s g h = sym (fused (λ r. rows (slots_at s.slots r)) (λ (p : Group). p.rows) g.groups)
flat_cells_in Lists s g h = cc
flat_cells_in Scalars s g h = cc
flat_cells_in Rows s g h = cc
flat_cells_in Single s g h = cc

-- the cells of flat rows
flat_cells : (c : Context) → is_flat c.layout ≡ true → named_cells c ≡ map (λ r. named c.values.name (cell_kind c) (rows (slots_at c.values.slots r))) (rows_of c.groups)
flat_cells c h =
    ap (map (named c.values.name (cell_kind c))) (flat_cells_in c.layout c.values c.groups h)
    ∙ fused (named c.values.name (cell_kind c)) (λ r. rows (slots_at c.values.slots r)) (rows_of c.groups)

-- flat rows are no units
flat_lists : (l : Layout) → is_flat l ≡ true → has_units l ≡ false
flat_lists Flat h = refl
flat_lists Lists h = cc
flat_lists Scalars h = cc
flat_lists Rows h = cc
flat_lists Single h = cc

both_made : (p : Result ℤ PxError) (q : Result (Option ℤ) PxError) (f : ℤ → Option ℤ → Result Cell PxError)
    → (p >>= λ a. q >>= λ b. f a b) ≡ ((p >>= λ a. q >>= λ b. window_ok (a, b)) >>= λ w. f w.0 w.1)
both_made (Ok a) (Ok b) f = refl
both_made (Ok a) (Err e) f = refl
both_made (Err e) q f = refl

-- a slice by two units
unit_slice : (x : Cell) (s t : Slot) → slice_cell x (unit s) (unit t) ≡ (window_by s t >>= λ w. Ok (rows (window_of w.0 w.1 (list_of x))))
unit_slice x s t = both_made (offset_of s) (length_of t) (λ start limit. Ok (rows (window_of start limit (list_of x))))

slice_made : (x : Cell) (s t : Slot) (w : ℤ × Option ℤ) → window_by s t ≡ Ok w → slice_cell x (unit s) (unit t) ≡ Ok (rows (window_of w.0 w.1 (list_of x)))
slice_made x s t w h = unit_slice x s t ∙ ap (λ r. r >>= λ v. Ok (rows (window_of v.0 v.1 (list_of x)))) h

slice_refused : (x : Cell) (s t : Slot) (e : PxError) → window_by s t ≡ Err e → slice_cell x (unit s) (unit t) ≡ Err e
slice_refused x s t e h = unit_slice x s t ∙ ap (λ r. r >>= λ v. Ok (rows (window_of v.0 v.1 (list_of x)))) h

module _ (c o l : NamedCell) (typed : (is_integer_or_null o.kind && is_integer_or_null l.kind) ≡ true) where
  typed_slice : (made : Result Cell PxError) → slice_cell c.cell o.cell l.cell ≡ made → slice_named c o l ≡ under c.name c.kind made
  typed_slice made h = ap (λ (b : Bool). if b then under c.name c.kind (slice_cell c.cell o.cell l.cell) else Err (InvalidOperation Types)) typed ∙ ap (under c.name c.kind) h

module _ (n m q : List ℕ) (k j i : Kind) (xs : List Slot) (s t : Slot) (typed : (is_integer_or_null j && is_integer_or_null i) ≡ true) where
  -- group by group
  each_window : (w : ℤ × Option ℤ) → window_by s t ≡ Ok w → (rs : List (List ℕ)) (os ls : List Group) → length rs ≡ length os → length rs ≡ length ls
      → answers_of_three slice_named (map (λ r. named n k (rows (slots_at xs r))) rs) (map (λ p. named m j (unit s)) os) (map (λ p. named q i (unit t)) ls)
      ≡ map Ok (map (λ r. named n k (rows (slots_at xs r))) (map (rows_window w.0 w.1) rs))
  each_window w h [] os ls a b = refl
  each_window w h (r ∷ rs) [] ls a b = absurd (omega (arith, a))
  each_window w h (r ∷ rs) (p ∷ os) [] a b = absurd (omega (arith, b))
  each_window w h (r ∷ rs) (p ∷ os) (e ∷ ls) a b =
      let first = typed_slice (named n k (rows (slots_at xs r))) (named m j (unit s)) (named q i (unit t)) typed
      (Ok (rows (slots_at xs (rows_window w.0 w.1 r)))) (slice_made (rows (slots_at xs r)) s t w h ∙ ap (λ ys. Ok (rows ys)) (window_slots w.0 w.1 xs r)) in
      λ y. first y ∷ each_window w h rs os ls (omega (arith, a)) (omega (arith, b)) y

  -- or refused in each
  first_refused : (e : PxError) → window_by s t ≡ Err e → (rs : List (List ℕ)) (os ls : List Group) → length rs ≡ length os → length rs ≡ length ls → 0 < length rs
      → HasFault e (answers_of_three slice_named (map (λ r. named n k (rows (slots_at xs r))) rs) (map (λ p. named m j (unit s)) os) (map (λ p. named q i (unit t)) ls))
  first_refused e h [] os ls a b z = absurd (omega (arith, z))
  first_refused e h (r ∷ rs) [] ls a b z = absurd (omega (arith, a))
  first_refused e h (r ∷ rs) (p ∷ os) [] a b z = absurd (omega (arith, b))
  first_refused e h (r ∷ rs) (p ∷ os) (g ∷ ls) a b z =
      inl (typed_slice (named n k (rows (slots_at xs r))) (named m j (unit s)) (named q i (unit t)) typed (Err e) (slice_refused (rows (slots_at xs r)) s t e h))

module _ (c o l : Context) (flat : is_flat c.layout ≡ true) (one : is_unit_literal o.layout ≡ true) (two : is_unit_literal l.layout ≡ true) (count_one : length c.groups.groups ≡ length o.groups.groups)
    (count_two : length c.groups.groups ≡ length l.groups.groups) (typed : (is_integer_or_null (cell_kind o) && is_integer_or_null (cell_kind l)) ≡ true) where
  many : length (rows_of c.groups) ≡ length c.groups.groups
  many = length-map c.groups.groups (λ (p : Group). p.rows)

  answers_flat : slice_answers c o l
      ≡ answers_of_three slice_named (map (λ r. named c.values.name (cell_kind c) (rows (slots_at c.values.slots r))) (rows_of c.groups)) (map (λ p. named o.values.name (cell_kind o) (unit (slot_at o.values.slots 0))) o.groups.groups)
      (map (λ p. named l.values.name (cell_kind l) (unit (slot_at l.values.slots 0))) l.groups.groups)
  answers_flat = λ i. answers_of_three slice_named (flat_cells c flat i) (unit_cells o one i) (unit_cells l two i)

  -- the rows at the windows of the groups are the slices
  pub flat_sliced : (w : ℤ × Option ℤ) → window_by (slot_at o.values.slots 0) (slot_at l.values.slots 0) ≡ Ok w → (g : Groups) → rows_of g ≡ windows_of w.0 w.1 c.groups
      → IsSliced c o l (with_other_groups c g)
  flat_sliced w h g e = record {
    cells = answers_flat
        ∙ each_window c.values.name o.values.name l.values.name (cell_kind c) (cell_kind o) (cell_kind l) c.values.slots (slot_at o.values.slots 0) (slot_at l.values.slots 0) typed w h (rows_of c.groups) o.groups.groups l.groups.groups
        (many ∙ count_one) (many ∙ count_two)
        ∙ ap (map Ok) (sym (flat_cells (with_other_groups c g) flat ∙ ap (map (λ r. named c.values.name (cell_kind c) (rows (slots_at c.values.slots r)))) e));
    name_is = refl;
    kind_is = ap (λ (b : Bool). if b then kind_ok (cell_kind c) else Err (InvalidOperation Types)) typed;
    shape = flat_lists c.layout flat;
    count_is = sym (length-map g.groups (λ (p : Group). p.rows)) ∙ ap length e ∙ length-map (rows_of c.groups) (rows_window w.0 w.1) ∙ many;
  }

  -- arguments that are refused are refused in each group
  pub flat_refused : (e : PxError) → window_by (slot_at o.values.slots 0) (slot_at l.values.slots 0) ≡ Err e → 0 < length c.groups.groups → HasFault e (slice_answers c o l)
  flat_refused e h z =
      subst (HasFault e) (sym answers_flat)
      (first_refused c.values.name o.values.name l.values.name (cell_kind c) (cell_kind o) (cell_kind l) c.values.slots (slot_at o.values.slots 0) (slot_at l.values.slots 0) typed e h (rows_of c.groups) o.groups.groups l.groups.groups
      (many ∙ count_one) (many ∙ count_two) (omega (arith, many, z)))

  -- or memory was wanting
  pub flat_denied : (e : PxError) (n : ℕ) → Refuses e (window_by (slot_at o.values.slots 0) (slot_at l.values.slots 0)) → 0 < length c.groups.groups
      → (slice_kind (cell_kind c) (cell_kind o) (cell_kind l) ≡ Err e) ⊎ IsRefusal e (slice_answers c o l) n
  flat_denied e n h z = by (refuses_or e (window_by (slot_at o.values.slots 0) (slot_at l.values.slots 0)) h)
    where
      by : (e ≡ OutOfMemory) ⊎ (window_by (slot_at o.values.slots 0) (slot_at l.values.slots 0) ≡ Err e) → (slice_kind (cell_kind c) (cell_kind o) (cell_kind l) ≡ Err e) ⊎ IsRefusal e (slice_answers c o l) n
      by (inl m) = inr (inl (inl m))
      by (inr f) = inr (inl (inr (flat_refused e f z)))
