-- A group step by columns, and the rows of its parts.
use Rattle.std.specs.Prelude.{◌≡◌, ℕ, ◌^◌, ◌<◌, true, length, List, None, map}
use Rattle.std.specs.Option.{option_map_or}
use Rattle.px_column.specs.Prelude.{Series, Slot}
use Rattle.px_value.specs.declared.method.GroupByMethod.TheVariants as method
use Rattle.px_frame.specs.Cell.{value_of_cell}
use Rattle.px_frame.specs.External.{alone, rows_of_frame}
use Rattle.px_frame.specs.Frame.{are_below}
use Rattle.px_tree.specs.Tree.{Tree, column, agg, len}
use Rattle.px_tree.specs.Step.{PlainStep, group}
use Rattle.px_tree.specs.Value.{value_on}
use Rattle.px_vectors.specs.declared.plain_step.Aggregation.{Aggregation}
use Rattle.px_vectors.specs.declared.plain_step.Aggregation.TheVariants.{Sum, Len}

-- the tree of an aggregation
abbrev pub tree_of : Aggregation → Tree
tree_of (Sum n) = agg method.Sum (column n)
tree_of Len = len

-- the step by these columns with these aggregations
abbrev pub step_by : List (List ℕ) → List Aggregation → PlainStep
step_by keys aggs = group (map column keys) (map tree_of aggs) None

-- rows of a frame of this height, fewer than 2^32
pub record IsPart (height : ℕ) (rows : List ℕ) : Type 0 where
  pub below : are_below height rows ≡ true
  pub few : length rows < 2 ^ 32

-- an expression's value on the frame of one part's rows alone, and a null where it has none
abbrev pub value_at_part : List Series → Tree → List ℕ → Slot
value_at_part frame e p = option_map_or value_of_cell (value_on e (rows_of_frame (alone frame) p)) None
