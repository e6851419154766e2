-- What is added to an arena.
use Rattle.std.specs.Prelude.{◌≡◌, List, ◌++◌}
use Rattle.px_tree.specs.Tree.{Tree}

-- the new list is the old one and then some front of these trees
pub record AddsFront (old all new : List Tree) : Type 0 where
  pub front : List Tree
  pub rest : List Tree
  pub parts : all ≡ front ++ rest
  pub added : new ≡ old ++ front
