-- An expression on groups is typed as on the frame, and a select of it has its values.
use Rattle.std.proofs.Common.{◌≡◌, ℕ, ◌==◌, true, List, [], ◌∷◌, Option, Some, None, length, option_and_then, option_map, refl, sym, ◌∙◌, ap, arith}
use Rattle.std.specs.Result.{result_ok}
use Rattle.std.proofs.lemmas.Bool.Decides.{nat_tests}
use Rattle.px_column.specs.Prelude.{Kind, Slot}
use Rattle.px_value.specs.declared.error.PxError.{PxError}
use Rattle.px_frame.specs.Cell.{Cell, rows, unit, value_of_cell}
use Rattle.px_frame.specs.External.{Frame, rows_of_frame, scope_of}
use Rattle.px_frame.specs.Spread.{NamedCell, assembled, column_of_cell}
use Rattle.px_tree.specs.Shape.{name_of}
use Rattle.px_tree.specs.Tree.{Tree}
use Rattle.px_tree.specs.Typing.{first_or_kind, kind_in}
use Rattle.px_tree.specs.Value.{value_on}
use Rattle.px_tree.specs.declared.context.Context.TheVariants.{Default}
use Rattle.px_tree.proofs.KindLaws.{kind_there}
use Rattle.px_laws.proofs.Defined.{scope_of_rows}
use Rattle.px_typing.proofs.Placing.{refused_more}
use Rattle.px_tree.specs.Grouped.{named_value, value_on_part}
use Rattle.px_step_laws.specs.OnGroups.{IsAlikeOnGroups, IsSelected}

same_length : (xs : List Slot) → (length xs == length xs) ≡ true
same_length xs = grind (arith, nat_tests)

-- one cell alone is a column of its own length
one_alone : (c : NamedCell) → result_ok (assembled (c ∷ [])) ≡ Some (column_of_cell c ∷ [])
one_alone c = by c.cell
  where
    by : (x : Cell) → result_ok (assembled (record { name = c.name; kind = c.kind; cell = x } ∷ [])) ≡ Some (column_of_cell (record { name = c.name; kind = c.kind; cell = x }) ∷ [])
    by (unit s) = refl
    by (rows xs) = rw (same_length xs) refl

-- a select of one expression
selected : (e : Tree) (frame : Frame) → IsSelected e frame
selected e frame = by (named_value frame e)
  where
    by : (o : Option NamedCell) → option_and_then (λ cells. result_ok (assembled cells)) (option_and_then (λ y. option_map (λ ys. y ∷ ys) (Some [])) o) ≡ option_map (λ c. column_of_cell c ∷ []) o
    by None = refl
    by (Some c) = one_alone c

-- a value with its type is the value
valued : (e : Tree) (frame : Frame) (part : List ℕ) (k : Kind) → kind_in e (scope_of frame) ≡ Some k → value_on_part frame e part ≡ option_map (λ (c : NamedCell). value_of_cell c.cell) (named_value (rows_of_frame frame part) e)
valued e frame part k h = by (value_on e (rows_of_frame frame part)) (kind_in e (scope_of (rows_of_frame frame part))) (ap (kind_in e) (scope_of_rows frame part) ∙ h)
  where
    by : (v : Option Cell) (o : Option Kind) → o ≡ Some k → option_map value_of_cell v ≡ option_map (λ (c : NamedCell). value_of_cell c.cell) (option_and_then (λ x. option_map (λ j. record { name = name_of e; kind = j; cell = x }) o) v)
    by None o q = refl
    by (Some x) None q = cc
    by (Some x) (Some j) q = refl

pub alike_on_groups : (e : Tree) → IsAlikeOnGroups e
alike_on_groups e frame h =
    let typed = refused_more e (scope_of frame) h in
    let k = kind_there e (scope_of frame) Default typed in (
      typed,
      ap (λ (es : List PxError). first_or_kind es (kind_in e (scope_of frame))) (typed ∙ sym h),
      λ part. (valued e frame part k.0 k.1, selected e (rows_of_frame frame part)),
    )
