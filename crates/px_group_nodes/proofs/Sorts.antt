-- Sorted cells have one name, one type and one shape.
use Rattle.std.proofs.Common.{◌≡◌, ℕ, Bool, true, false, cond, List, [], ◌∷◌, Result, Ok, Err, length, map, sym, ap, ◌∙◌}
use Rattle.px_column.specs.Order.{sorted_rows}
use Rattle.px_column.specs.Prelude.{Kind, is_list_kind}
use Rattle.px_value.specs.declared.error.InvalidWhy.TheVariants.{ListKey}
use Rattle.px_value.specs.declared.error.PxError.{PxError}
use Rattle.px_value.specs.declared.error.PxError.TheVariants.{InvalidOperation}
use Rattle.px_value.specs.declared.sort_options.SortOptions.{SortOptions}
use Rattle.px_frame.specs.Cell.{Cell, is_unit_cell, list_of, rows}
use Rattle.px_frame.specs.Frame.{slots_at}
use Rattle.px_frame.specs.Spread.{NamedCell}
use Rattle.px_tree.specs.Node.{sort_cell}
use Rattle.px_nodes.specs.Named.{sort_named, under}
use Rattle.px_context.specs.Context.{Context, cell_kind, cells_of, has_units}
use Rattle.px_lanes.specs.Alike.{AreLike, IsLike}
use Rattle.px_lanes.proofs.Joining.{named}
use Rattle.px_lanes.proofs.Likeness.{like_one, shaped}
use Rattle.px_lanes.proofs.Operators.{made_under, ok_is}
use Rattle.px_group_nodes.specs.Sorting.{sort_answers, sorted_kind}

abbrev cell_ok : Cell → Result Cell PxError
cell_ok x = Ok x

cell_is : (x y : Cell) → cell_ok x ≡ Ok y → x ≡ y
cell_is x y h = cc

sort_like : (o : SortOptions) (n : List ℕ) (j k : Kind) (x : Cell) (c : NamedCell) → sorted_kind j ≡ Ok k → sort_named o (named n j x) ≡ Ok c → IsLike n k false c
sort_like o n j k x c t h = by (is_list_kind j) t h
  where
    by : (b : Bool) → cond b (Err (InvalidOperation ListKey)) (Ok j) ≡ Ok k → cond b (Err (InvalidOperation ListKey)) (under n j (sort_cell o x)) ≡ Ok c → IsLike n k false c
    by true t h = absurd (cc)
    by false t h =
        let same : under n j (sort_cell o x) ≡ Ok c = h in
        let kind : j ≡ k = ok_is j k t in
        let made = made_under n j (sort_cell o x) c same in
        let cell = rows (slots_at (list_of x) (sorted_rows ((o, list_of x) ∷ []) (length (list_of x)))) in
        record { name_is = made.name_is; kind_is = made.kind_is ∙ kind; shape = ap is_unit_cell (sym (cell_is cell c.cell made.cell)) }

-- sorted cells are lists of its name and its type
pub sort_alike : (o : SortOptions) (a : Context) (k : Kind) (cs : List NamedCell) → sorted_kind (cell_kind a) ≡ Ok k → sort_answers o a ≡ map Ok cs → AreLike a.values.name k false cs
sort_alike o a k cs t h =
    like_one a.values.name k false (sort_named o) a.values.name (cell_kind a) (has_units a.layout) (λ x c u made. sort_like o a.values.name (cell_kind a) k x c t made) (cells_of a) cs (shaped a) h
