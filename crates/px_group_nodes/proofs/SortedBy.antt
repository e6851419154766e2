-- Rows in the order of some keys are alike.
use Rattle.std.proofs.Common.{◌≡◌, Bool, true, false, cond, List, [], ◌∷◌, Result, Ok, Err, map, sym, ap, ◌∙◌}
use Rattle.std.specs.List.{list_any}
use Rattle.px_column.specs.Prelude.{Slot, is_list_kind}
use Rattle.px_column.specs.Result.{◌>>=◌}
use Rattle.px_value.specs.declared.error.InvalidWhy.TheVariants.{ListKey}
use Rattle.px_value.specs.declared.error.PxError.{PxError}
use Rattle.px_value.specs.declared.error.PxError.TheVariants.{InvalidOperation}
use Rattle.px_value.specs.declared.sort_options.SortMultipleOptions.{SortMultipleOptions}
use Rattle.px_frame.specs.Cell.{Cell, rows, is_unit_cell}
use Rattle.px_frame.specs.Spread.{NamedCell}
use Rattle.px_tree.specs.Node.{sort_by_cell, spread_keys}
use Rattle.px_nodes.specs.Named.{cells_in, kinds_of, sort_by_named, under}
use Rattle.px_context.specs.Context.{Context, cell_kind}
use Rattle.px_lanes.specs.Alike.{AreLike, IsLike}
use Rattle.px_lanes.proofs.Operators.{IsUnder, made_under}
use Rattle.px_group_nodes.specs.SortBy.{sort_by_answers, sort_first}
use Rattle.px_group_nodes.proofs.Columns.{IsRowIn, like_many}

list_made : {X : Type 0} (r : Result X PxError) (f : X → List Slot) (c : Cell) → (r >>= λ x. Ok (rows (f x))) ≡ Ok c → is_unit_cell c ≡ false
list_made (Ok x) f c h = let same : rows (f x) ≡ c = cc in ap is_unit_cell (sym same)
list_made (Err e) f c h = absurd (cc)

module _ (options : SortMultipleOptions) (x : NamedCell) (by : List NamedCell) (m : NamedCell) where
  sorted_under : sort_by_named options x by ≡ Ok m → IsUnder x.name x.kind (sort_by_cell options x.cell (cells_in by)) m
  sorted_under h = by_lists (list_any is_list_kind (kinds_of by)) h
    where
      by_lists : (b : Bool) → cond b (Err (InvalidOperation ListKey)) (under x.name x.kind (sort_by_cell options x.cell (cells_in by))) ≡ Ok m
          → IsUnder x.name x.kind (sort_by_cell options x.cell (cells_in by)) m
      by_lists true e = absurd (cc)
      by_lists false e = made_under x.name x.kind (sort_by_cell options x.cell (cells_in by)) m e

sorted_like : (options : SortMultipleOptions) (c : Context) (by : List Context) (row : List NamedCell) (m : NamedCell) → IsRowIn (c ∷ by) row → sort_first options row ≡ Ok m
    → IsLike c.values.name (cell_kind c) false m
sorted_like options c by [] m p h = absurd p
sorted_like options c by (x ∷ xs) m p h =
    let made = sorted_under options x xs m h in
    record {
      name_is = made.name_is ∙ p.0.name_is;
      kind_is = made.kind_is ∙ p.0.kind_is;
      shape = list_made (spread_keys _ (cells_in xs)) _ m.cell made.cell;
    }

-- the answers group by group are lists of the input's type, under its name
pub sorted_alike : (options : SortMultipleOptions) (c : Context) (by : List Context) (ms : List NamedCell) → sort_by_answers options c by ≡ map Ok ms → AreLike c.values.name (cell_kind c) false ms
sorted_alike options c by ms h = like_many c.values.name (cell_kind c) false (sort_first options) (c ∷ by) (sorted_like options c by) _ ms h
