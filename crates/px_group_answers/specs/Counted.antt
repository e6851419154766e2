-- How often kernels ran while expressions were evaluated on groups.
use Rattle.std.specs.Prelude.{◌≡◌, ℕ, ◌+◌, ◌*◌, ◌≤◌, true}
use Rattle.px_tree.specs.Cost.{are_flat_rows, group_cost}
use Rattle.px_tree.specs.Nodes.{all_nodes_of}
use Rattle.px_tree.specs.Tree.{Tree, Trees}

-- a count never fell, and rose by no more than an expression's cost on n groups
pub record RunOnGroups (e : Tree) (n old new : ℕ) : Type 0 where
  pub rises : old ≤ new
  pub cost : new ≤ old + group_cost e n

-- the same of some expressions: once a node where each works on flat rows, else at most once a node for each group and once more
pub record RunAllOnGroups (es : Trees) (n old new : ℕ) : Type 0 where
  pub rises : old ≤ new
  pub flat : are_flat_rows es ≡ true → new ≤ old + all_nodes_of es
  pub cost : new ≤ old + all_nodes_of es * (n + 1)
