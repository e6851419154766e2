-- The answers of a slice have its input's name and type, and are lists.
use Rattle.std.proofs.Common.{◌≡◌, ℤ, Bool, ◌&&◌, true, false, List, Result, Ok, Err, Option, if◌then◌else◌, map, refl, sym, ap, ◌∙◌}
use Rattle.px_column.specs.Function.{window_of}
use Rattle.px_column.specs.Prelude.{Kind, Slot}
use Rattle.px_column.specs.Result.{◌>>=◌}
use Rattle.px_value.specs.declared.error.InvalidWhy.TheVariants.{Types}
use Rattle.px_value.specs.declared.error.PxError.{PxError}
use Rattle.px_value.specs.declared.error.PxError.TheVariants.{InvalidOperation}
use Rattle.px_frame.specs.Cell.{Cell, rows, is_unit_cell, list_of}
use Rattle.px_frame.specs.Spread.{NamedCell}
use Rattle.px_tree.specs.Node.{length_of, offset_of, one_value, slice_cell}
use Rattle.px_tree.specs.Typing.{is_integer_or_null}
use Rattle.px_nodes.specs.Named.{slice_named, under}
use Rattle.px_context.specs.Context.{Context, cell_kind, cells_of, has_units}
use Rattle.px_lanes.specs.Alike.{AreLike}
use Rattle.px_lanes.proofs.Joining.{named}
use Rattle.px_lanes.proofs.Likeness.{shaped}
use Rattle.px_lanes.proofs.Operators.{IsTyped, IsUnder, made_under, ok_is, typed_by}
use Rattle.px_group_nodes.specs.Slice.{slice_answers, slice_kind}
use Rattle.px_group_nodes.proofs.LikenessThree.{like_three}

after_test : (t : Bool) (k : Kind) (f : Kind → Result NamedCell PxError) → (if t then f k else Err (InvalidOperation Types)) ≡ ((if t then Ok k else Err (InvalidOperation Types)) >>= f)
after_test true k f = refl
after_test false k f = refl

-- the type of a slice comes first
pub slice_as : (c o l : NamedCell) → slice_named c o l ≡ (slice_kind c.kind o.kind l.kind >>= λ k. under c.name k (slice_cell c.cell o.cell l.cell))
slice_as c o l = after_test (is_integer_or_null o.kind && is_integer_or_null l.kind) c.kind (λ k. under c.name k (slice_cell c.cell o.cell l.cell))

then_list : {X : Type 0} (r : Result X PxError) (f : X → Result Cell PxError) (d : Cell) → ((x : X) → f x ≡ Ok d → is_unit_cell d ≡ false) → (r >>= f) ≡ Ok d → is_unit_cell d ≡ false
then_list (Ok x) f d g h = g x h
then_list (Err e) f d g h = absurd (cc)

abbrev cell_ok : Cell → Result Cell PxError
cell_ok c = Ok c

list_made : (xs : List Slot) (d : Cell) → cell_ok (rows xs) ≡ cell_ok d → is_unit_cell d ≡ false
list_made xs d h = let same : rows xs ≡ d = cc in ap is_unit_cell (sym same)

-- a slice is a list
slice_list : (c o l d : Cell) → slice_cell c o l ≡ Ok d → is_unit_cell d ≡ false
slice_list c o l d h =
    let last : ℤ → Option ℤ → Result Cell PxError = λ start limit. Ok (rows (window_of start limit (list_of c))) in
    let third : Slot → ℤ → Result Cell PxError = λ t start. length_of t >>= last start in
    let second : Slot → Slot → Result Cell PxError = λ s t. offset_of s >>= third t in
    let first : Slot → Result Cell PxError = λ s. one_value l >>= second s in
    then_list (one_value o) first d
    (λ s. then_list (one_value l) (second s) d (λ t. then_list (offset_of s) (third t) d (λ start. then_list (length_of t) (last start) d (λ limit e. list_made (window_of start limit (list_of c)) d e)))) h

module _ (c o l d : NamedCell) (h : slice_named c o l ≡ Ok d) where
  slice_typed : IsTyped (slice_kind c.kind o.kind l.kind) (λ k. under c.name k (slice_cell c.cell o.cell l.cell)) d
  slice_typed = typed_by (slice_kind c.kind o.kind l.kind) (λ k. under c.name k (slice_cell c.cell o.cell l.cell)) d (sym (slice_as c o l) ∙ h)

  slice_under : IsUnder c.name slice_typed.kind (slice_cell c.cell o.cell l.cell) d
  slice_under = made_under c.name slice_typed.kind (slice_cell c.cell o.cell l.cell) d slice_typed.made

-- the answers group by group have the input's name, the slice's type, and are lists
pub slice_alike : (c o l : Context) (k : Kind) (cs : List NamedCell) → slice_kind (cell_kind c) (cell_kind o) (cell_kind l) ≡ Ok k → slice_answers c o l ≡ map Ok cs → AreLike c.values.name k false cs
slice_alike c o l k cs t h =
    like_three c.values.name k false slice_named c.values.name o.values.name l.values.name (cell_kind c) (cell_kind o) (cell_kind l) (has_units c.layout) (has_units o.layout) (has_units l.layout)
    (λ x y z d u v w made.
    let under_it = slice_under (named c.values.name (cell_kind c) x) (named o.values.name (cell_kind o) y) (named l.values.name (cell_kind l) z) d made in
    let typed = slice_typed (named c.values.name (cell_kind c) x) (named o.values.name (cell_kind o) y) (named l.values.name (cell_kind l) z) d made in
    record {
      name_is = under_it.name_is;
      kind_is = under_it.kind_is ∙ ok_is typed.kind k (sym typed.typed ∙ t);
      shape = slice_list x y z d.cell under_it.cell;
    })
    (cells_of c) (cells_of o) (cells_of l) cs (shaped c) (shaped o) (shaped l) h
