-- What contracts see of a step: plain data, with no memory in it.
use Rattle.std.specs.Prelude.{ℕ, List, Option, map, option_map}
use Rattle.px_tree.specs.Tree.{Tree}
use Rattle.px_tree.specs.View.{tree}
use Rattle.px_tree.specs.declared.step.Step.{Step}
use Rattle.px_tree.specs.declared.step.Step.TheVariants.{Select, Filter, GroupAgg}

pub data PlainStep : Type 0 where
  -- the columns of the result
  select : List Tree → PlainStep
  -- the mask of the rows that stay
  filter : Tree → PlainStep
  -- the keys, the aggregations and the chunk lengths
  group : List Tree → List Tree → Option (List ℕ) → PlainStep

-- each expression seen as its tree
abbrev pub step_view : Step → PlainStep
step_view (Select exprs) = select (map tree exprs.items)
step_view (Filter mask) = filter (tree mask)
step_view (GroupAgg keys aggs chunks) = group (map tree keys.items) (map tree aggs.items) (option_map (λ v. v.items) chunks)
