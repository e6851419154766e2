-- What contracts see of an expression: its tree, with no memory in it.
use Rattle.std.specs.Prelude.{ℕ, ℤ, Bool, List, [], ◌∷◌}
use Rattle.px_column.specs.Prelude.{Slot, Kind, Series}
use Rattle.px_value.specs.declared.cast_options.CastOptions.{CastOptions}
use Rattle.px_value.specs.declared.method.GroupByMethod.{GroupByMethod}
use Rattle.px_value.specs.declared.operator.Operator.{Operator}
use Rattle.px_value.specs.declared.sort_options.SortMultipleOptions.{SortMultipleOptions}
use Rattle.px_value.specs.declared.sort_options.SortOptions.{SortOptions}
use Rattle.px_tree.specs.declared.function.FunctionExpr.{FunctionExpr}
use Rattle.px_tree.specs.declared.function.FunctionExpr.TheVariants.{Explode}
use Rattle.px_tree.specs.declared.window.WindowMapping.{WindowMapping}

-- one place of a type, the integers from low to high - 1 in a type, or a column
pub data Literal : Type 0 where
  single : Kind → Slot → Literal
  range : ℤ → ℤ → Kind → Literal
  series : Series → Literal

-- how a function stands in an expression: by its name, or Explode of one input as an expression of its own
pub data Call : Type 0 where
  by_name : FunctionExpr → Call
  as_explode : Call

-- the function that is called
abbrev pub called : Call → FunctionExpr
called (by_name f) = f
called as_explode = Explode

mutual
  -- an expression
  pub data Tree : Type 0 where
    column : List ℕ → Tree
    literal : Literal → Tree
    alias : Tree → List ℕ → Tree
    binary : Tree → Operator → Tree → Tree
    ternary : Tree → Tree → Tree → Tree
    cast : Tree → Kind → CastOptions → Tree
    function : Trees → Call → Tree
    filter : Tree → Tree → Tree
    slice : Tree → Tree → Tree → Tree
    gather : Tree → Tree → Bool → Tree
    sort : Tree → SortOptions → Tree
    sort_by : Tree → Trees → SortMultipleOptions → Tree
    agg : GroupByMethod → Tree → Tree
    len : Tree
    window : Tree → Trees → Order → WindowMapping → Tree

  -- a list of trees
  pub data Trees : Type 0 where
    no_trees : Trees
    one_tree : Tree → Trees → Trees

  -- what the rows of a part are ordered by, if anything
  pub data Order : Type 0 where
    no_order : Order
    ordered : Tree → SortOptions → Order

-- a list as trees
abbrev pub trees_of : List Tree → Trees
trees_of [] = no_trees
trees_of (t ∷ ts) = one_tree t (trees_of ts)
