-- What contracts see of an expression of a plan: its node, and the name that its result is given, if any.
use Rattle.std.specs.Prelude.{ℕ, List, Option}
use Rattle.px_arena.specs.declared.node.Node.{Node}

-- a node, and the name that its result is given, if any
pub record NamedNode : Type 0 where
  pub node : Node
  pub alias : Option (List ℕ)
