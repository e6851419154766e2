-- The rows that indices name, group by group: their name, their type and their shape.
use Rattle.std.proofs.Common.{◌≡◌, Bool, true, false, ◌&&◌, not, if◌then◌else◌, List, Ok, Err, length, map, sym, ap, ◌∙◌}
use Rattle.std.specs.List.{list_all}
use Rattle.px_column.specs.Operator.{is_integer_kind}
use Rattle.px_column.specs.Prelude.{Kind, Slot}
use Rattle.px_value.specs.declared.error.ComputeWhy.TheVariants.{NullIndex, SingleIndex}
use Rattle.px_value.specs.declared.error.InvalidWhy.TheVariants.{Types}
use Rattle.px_value.specs.declared.error.PxError.TheVariants.{ComputeError, InvalidOperation, OutOfBounds}
use Rattle.px_frame.specs.Cell.{Cell, cell_of, is_unit_cell, list_of}
use Rattle.px_frame.specs.Spread.{NamedCell}
use Rattle.px_tree.specs.Node.{gather_cell, indexed, is_index, is_null_unit}
use Rattle.px_nodes.specs.Named.{gather_named, under}
use Rattle.px_context.specs.Context.{Context, cell_kind, cells_of, has_units}
use Rattle.px_lanes.proofs.Joining.{named}
use Rattle.px_lanes.proofs.Likeness.{like_two, shaped}
use Rattle.px_lanes.proofs.Operators.{IsUnder, made_under}
use Rattle.px_lanes.proofs.Rowwise.{unit_cell_of}
use Rattle.px_group_nodes.specs.Gather.{gather_answers, gathered_kind}
use Rattle.px_group_nodes.specs.Pairs.{AnswersAlike}

module _ (one literal : Bool) where
  -- what is named of a cell stands under its name and has its type
  gather_under : (a idx c : NamedCell) → gather_named one literal a idx ≡ Ok c → IsUnder a.name a.kind (gather_cell one literal a.cell idx.cell) c
  gather_under a idx c h = tested (is_integer_kind idx.kind) (one && not (is_unit_cell idx.cell)) h
    where
      tested : (b d : Bool) → (if b then (if d then Err (ComputeError SingleIndex) else under a.name a.kind (gather_cell one literal a.cell idx.cell)) else Err (InvalidOperation Types)) ≡ Ok c
          → IsUnder a.name a.kind (gather_cell one literal a.cell idx.cell) c
      tested true false g = made_under a.name a.kind (gather_cell one literal a.cell idx.cell) c g
      tested true true g = absurd (cc)
      tested false d g = absurd (cc)

  -- it is a unit where one row is asked for
  gather_shape : (a idx c : Cell) → gather_cell one literal a idx ≡ Ok c → is_unit_cell c ≡ one
  gather_shape a idx c h = tested (literal && is_null_unit idx) (list_all (is_index (length (list_of a))) (list_of idx)) (map (indexed (list_of a)) (list_of idx)) h
    where
      tested : (b d : Bool) (xs : List Slot) → (if b then Err (ComputeError NullIndex) else if d then Ok (cell_of one xs) else Err OutOfBounds) ≡ Ok c → is_unit_cell c ≡ one
      tested true d xs g = absurd (cc)
      tested false true xs g = let same : cell_of one xs ≡ c = cc in ap is_unit_cell (sym same) ∙ unit_cell_of one xs
      tested false false xs g = absurd (cc)

  -- where no type is refused, it is the input's
  pub gathered_is : (a idx : Context) (k : Kind) → gathered_kind one a idx ≡ Ok k → cell_kind a ≡ k
  gathered_is a idx k h = tested (is_integer_kind (cell_kind idx)) (one && not (has_units idx.layout)) h
    where
      tested : (b d : Bool) → (if b then (if d then Err (ComputeError SingleIndex) else Ok (cell_kind a)) else Err (InvalidOperation Types)) ≡ Ok k → cell_kind a ≡ k
      tested true false g = cc
      tested true true g = absurd (cc)
      tested false d g = absurd (cc)

  -- the answers group by group have the input's name and type, and are units where one row is asked for
  pub gather_alike : (a idx : Context) (k : Kind) → gathered_kind one a idx ≡ Ok k → AnswersAlike (gather_answers one literal a idx) a.values.name k one
  gather_alike a idx k o cs h =
      like_two a.values.name k one (gather_named one literal) a.values.name idx.values.name (cell_kind a) (cell_kind idx) (has_units a.layout) (has_units idx.layout)
      (λ x y c u v made.
      let is = gather_under (named a.values.name (cell_kind a) x) (named idx.values.name (cell_kind idx) y) c made in
      record {
        name_is = is.name_is;
        kind_is = is.kind_is ∙ gathered_is a idx k o;
        shape = gather_shape x y c.cell is.cell;
      })
      (cells_of a) (cells_of idx) cs (shaped a) (shaped idx) h
