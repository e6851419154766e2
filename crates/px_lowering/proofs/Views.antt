-- Lists of expressions and of places, seen one by one.
use Rattle.std.proofs.Common.{◌≡◌, ℕ, zero, suc, ◌+◌, ◌*◌, ◌<◌, ◌≤◌, true, List, [], ◌∷◌, length, map, subst, arith, slice_index_or}
use Rattle.std.proofs.lemmas.Bool.Decides.{nat_tests}
use Rattle.px_arena.proofs.Trees.{and_left, and_right}
use Rattle.px_arena.specs.Arena.{is_below, all_below, children_below}
use Rattle.px_tree.specs.Tree.{Tree, Trees, trees_of}
use Rattle.px_tree.specs.View.{tree, trees, agg_step, tree_step, trees_step}
use Rattle.px_tree.specs.declared.expr.Exprs.{Exprs, out-Exprs, fold_out-Exprs}
use Rattle.px_arena.specs.declared.node.AExpr.{AExpr}
use Rattle.px_arena.specs.declared.node.Node.{Node}

pub trees_is : (es : Exprs) → trees es ≡ trees_of (map tree (out-Exprs es).items.value.items)
trees_is es = fold_out-Exprs Tree Tree Trees agg_step tree_step trees_step es

pub is_below_at : (n : ℕ) (e : Node) → is_below n e ≡ true → e.0 < n
is_below_at n e b = grind (arith, nat_tests)

pub all_below_at : (n : ℕ) (es : List Node) (i : ℕ) (d : Node) → all_below n es ≡ true → i < length es → (slice_index_or es i d).0 < n
all_below_at n [] i d b h = absurd (omega arith)
all_below_at n (e ∷ es) zero d b h = is_below_at n e (and_left (is_below n e) (all_below n es) b)
all_below_at n (e ∷ es) (suc i) d b h = all_below_at n es i d (and_right (is_below n e) (all_below n es) b) (omega arith)

-- the children of a node whose kind is known
pub below_seen : {x y : AExpr} (n : ℕ) → x ≡ y → children_below n x ≡ true → children_below n y ≡ true
below_seen n e b = subst (λ (z : AExpr). children_below n z ≡ true) e b

-- a child stands in the arena as its node does, and the measure falls from the node to it
pub child_falls : (n e : Node) (m t : ℕ) → is_below n.0 e ≡ true → 3 * n.0 + 2 ≡ t → n.0 < m → (3 * e.0 + 3 < t) × (e.0 < m)
child_falls n e m t b is h = let lt = is_below_at n.0 e b in (omega arith, omega arith)

-- so it falls to what is made of children, which the arena has as well
pub children_fall : (n m t : ℕ) (P : Type 0) → 3 * n + 2 ≡ t → n < m → P → (3 * n + 1 < t) × ((n ≤ m) × P)
children_fall n m t P is h p = (omega arith, (omega arith, p))
