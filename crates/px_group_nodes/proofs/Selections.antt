-- The rows that a mask keeps, group by group: their name, their type and their shape.
use Rattle.std.proofs.Common.{◌≡◌, Bool, true, false, if◌then◌else◌, List, Result, Ok, Err, length, sym, ap, ◌∙◌}
use Rattle.px_column.specs.Operator.{is_boolean_kind}
use Rattle.px_column.specs.Prelude.{Kind, Slot}
use Rattle.px_column.specs.Result.{◌>>=◌}
use Rattle.px_column.specs.Rows.{kept_rows}
use Rattle.px_value.specs.declared.error.PxError.{PxError}
use Rattle.px_value.specs.declared.error.PxError.TheVariants.{SchemaMismatch}
use Rattle.px_frame.specs.Cell.{Cell, rows, is_unit_cell, list_of}
use Rattle.px_frame.specs.Spread.{NamedCell, spread}
use Rattle.px_tree.specs.Node.{filter_cell}
use Rattle.px_nodes.specs.Named.{filter_named, under}
use Rattle.px_context.specs.Context.{Context, cell_kind, cells_of, has_units}
use Rattle.px_lanes.proofs.Joining.{named}
use Rattle.px_lanes.proofs.Likeness.{like_two, shaped}
use Rattle.px_lanes.proofs.Operators.{IsUnder, made_under}
use Rattle.px_group_nodes.specs.Filter.{filter_answers, filtered_kind}
use Rattle.px_group_nodes.specs.Pairs.{AnswersAlike}

-- what is kept of a cell stands under its name and has its type
pub filter_under : (a by c : NamedCell) → filter_named a by ≡ Ok c → IsUnder a.name a.kind (filter_cell a.cell by.cell) c
filter_under a by c h = tested (is_boolean_kind by.kind) h
  where
    tested : (b : Bool) → (if b then under a.name a.kind (filter_cell a.cell by.cell) else Err SchemaMismatch) ≡ Ok c → IsUnder a.name a.kind (filter_cell a.cell by.cell) c
    tested true g = made_under a.name a.kind (filter_cell a.cell by.cell) c g
    tested false g = absurd (cc)

-- and is a list
pub kept_list : (truths : Result (List Slot) PxError) (xs : List Slot) (c : Cell) → (truths >>= λ ts. Ok (rows (kept_rows ts xs))) ≡ Ok c → is_unit_cell c ≡ false
kept_list (Ok ts) xs c h = let same : rows (kept_rows ts xs) ≡ c = cc in ap is_unit_cell (sym same)
kept_list (Err e) xs c h = absurd (cc)

kind_where : (b : Bool) (j k : Kind) → (if b then Ok j else Err SchemaMismatch) ≡ Ok k → j ≡ k
kind_where true j k h = cc
kind_where false j k h = absurd (cc)

-- where the mask has truths, the type is the input's
pub filtered_is : (a by : Context) (k : Kind) → filtered_kind a by ≡ Ok k → cell_kind a ≡ k
filtered_is a by k h = kind_where (is_boolean_kind (cell_kind by)) (cell_kind a) k h

-- the answers group by group have the input's name and type, and are lists
pub filter_alike : (a by : Context) (k : Kind) → filtered_kind a by ≡ Ok k → AnswersAlike (filter_answers a by) a.values.name k false
filter_alike a by k o cs h =
    like_two a.values.name k false filter_named a.values.name by.values.name (cell_kind a) (cell_kind by) (has_units a.layout) (has_units by.layout)
    (λ x y c u v made.
    let is = filter_under (named a.values.name (cell_kind a) x) (named by.values.name (cell_kind by) y) c made in
    record {
      name_is = is.name_is;
      kind_is = is.kind_is ∙ filtered_is a by k o;
      shape = kept_list (spread (length (list_of x)) y) (list_of x) c.cell is.cell;
    })
    (cells_of a) (cells_of by) cs (shaped a) (shaped by) h
