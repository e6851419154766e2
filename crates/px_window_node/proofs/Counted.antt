-- How often kernels run, and rows are grouped, at a window.
use Rattle.std.proofs.Common.{◌≡◌, ℕ, ◌+◌, ◌*◌, ◌≤◌, Bool, true, false, cond, ◌&&◌, List, [], ◌∷◌, Option, Some, None, IfSome, option_map, length, map, sum, refl, sym, ◌∙◌, ap, subst, arith}
use Rattle.std.proofs.lemmas.List.Sums.{sum_by-cons}
use Rattle.px_column.specs.Option.{each}
use Rattle.px_value.specs.declared.sort_options.SortOptions.{SortOptions}
use Rattle.px_frame.specs.External.{Frame, height}
use Rattle.px_frame.specs.Spread.{NamedCell}
use Rattle.px_tree.specs.Cost.{all_windows_in, are_flat, cost_on, is_flat, is_flat_order, order_windows_in, sorting_cost, windows_in}
use Rattle.px_tree.specs.Nodes.{all_nodes_of, nodes_of, order_nodes_of}
use Rattle.px_tree.specs.Tree.{Tree}
use Rattle.px_tree.specs.Value.{parts_in, parts_on}
use Rattle.px_tree.specs.Window.{OrderCell}
use Rattle.px_answers.specs.Counted.{GroupedAllAtMost, GroupedAtMost, RisesAtMost, RunAtMost, RunExactly, costs_on}
use Rattle.px_answers.specs.Parts.{PlannedWindow, plan_order, plan_trees, under, window_plan}
use Rattle.px_answers.specs.Planned.{Planned}
use Rattle.px_answers.specs.Value.{AreCellsOf}
use Rattle.px_group_answers.specs.Counted.{RunOnGroups}
use Rattle.px_window_node.specs.Grouped.{part_count}
use Rattle.px_window_node.specs.Inputs.{GroupedOrderAtMost, IsOrderOf, RunOrderAtMost}
use Rattle.px_window_node.proofs.Refused.{parts_told}

-- a window is not flat
pub window_ticks : (w : PlannedWindow) (old new : ℕ) → RunExactly (window_plan w).tree old new
window_ticks w old new h = absurd (cc h)

under_flat : (name : Option (List ℕ)) (e : Tree) → is_flat (under name e) ≡ is_flat e
under_flat None e = refl
under_flat (Some n) e = refl

under_nodes : (name : Option (List ℕ)) (e : Tree) → nodes_of e ≤ nodes_of (under name e)
under_nodes None e = omega arith
under_nodes (Some n) e = omega arith

both : (a b : Bool) → (a && b) ≡ true → (a ≡ true) × (b ≡ true)
both true b h = (refl, h)
both false b h = absurd (cc h)

-- the cost of a flat expression
flat_cost : (e : Tree) (frame : Frame) → is_flat e ≡ true → cost_on e frame ≡ Some (nodes_of e)
flat_cost e frame h = rw h refl

flat_costs : (ps : List Planned) (frame : Frame) → are_flat (plan_trees ps) ≡ true → each (λ e. cost_on e frame) (map (λ (p : Planned). p.tree) ps) ≡ Some (map (λ (p : Planned). nodes_of p.tree) ps)
flat_costs [] frame h = refl
flat_costs (p ∷ ps) frame h = let flat = both (is_flat p.tree) (are_flat (plan_trees ps)) h in rw (flat_cost p.tree frame flat.0, flat_costs ps frame flat.1) refl

nodes_sum : (ps : List Planned) → sum (map (λ (p : Planned). nodes_of p.tree) ps) ≡ all_nodes_of (plan_trees ps)
nodes_sum [] = refl
nodes_sum (p ∷ ps) = sum_by-cons (λ n. n) (nodes_of p.tree) (map (λ (q : Planned). nodes_of q.tree) ps) ∙ ap (λ n. nodes_of p.tree + n) (nodes_sum ps)

keys_most : (ps : List Planned) (frame : Frame) (old new : ℕ) → RisesAtMost (costs_on (map (λ (p : Planned). p.tree) ps) frame) old new → are_flat (plan_trees ps) ≡ true → new ≤ old + all_nodes_of (plan_trees ps)
keys_most ps frame old new r h = subst (λ o. RisesAtMost o old new) (ap (option_map sum) (flat_costs ps frame h) ∙ ap Some (nodes_sum ps)) r

order_rises : (o : Option (Planned × SortOptions)) (frame : Frame) (old new : ℕ) → RunOrderAtMost o frame old new → old ≤ new
order_rises None frame old new r = omega (arith, r)
order_rises (Some o) frame old new r = r.rises

order_most : (o : Option (Planned × SortOptions)) (frame : Frame) (old new : ℕ) → RunOrderAtMost o frame old new → is_flat_order (plan_order o) ≡ true → new ≤ old + order_nodes_of (plan_order o)
order_most None frame old new r h = omega (arith, r)
order_most (Some o) frame old new r h = subst (λ x. RisesAtMost x old new) (flat_cost o.0.tree frame h) r.cost

-- what sorting the parts runs at most
sorting_most : (w : PlannedWindow) (frame : Frame) (keys : List NamedCell) (order : OrderCell) (o : Option (Planned × SortOptions)) (old new : ℕ) → w.order_by ≡ o → AreCellsOf w.group_by frame keys → IsOrderOf w.order_by frame order → new ≤ old + part_count (height frame) keys order → (order ≡ None → new ≡ old)
    → new ≤ old + sorting_cost (plan_trees w.group_by) (plan_order o) frame
sorting_most w frame keys order None old new s are is most none = by order (subst (λ (x : Option (Planned × SortOptions)). IsOrderOf x frame order) s is) none
  where
    by : (c : OrderCell) → IsOrderOf None frame c → (c ≡ None → new ≡ old) → new ≤ old + 0
    by None h stays = omega (arith, stays refl)
    by (Some c) h stays = absurd h
sorting_most w frame keys order (Some o) old new s are is most none =
    let parts = ap (λ ps. length (parts_in ps)) (parts_told w frame keys order are is) in
    subst (λ (x : Option (Planned × SortOptions)). new ≤ old + length (parts_on (plan_trees w.group_by) (plan_order x) frame)) s (omega (arith, most, parts))

module _ (w : PlannedWindow) (frame : Frame) (k0 k1 : ℕ) (rises : k0 ≤ k1) (keys_cost : RisesAtMost (costs_on (map (λ (p : Planned). p.tree) w.group_by) frame) k0 k1) where
  -- a bound where all in the window is flat is enough
  at_most : (k : ℕ) → k0 ≤ k
      → (is_flat w.phys_function.tree ≡ true → are_flat (plan_trees w.group_by) ≡ true → is_flat_order (plan_order w.order_by) ≡ true
      → k ≤ k0 + (nodes_of w.phys_function.tree + all_nodes_of (plan_trees w.group_by) + order_nodes_of (plan_order w.order_by) + 1) + sorting_cost (plan_trees w.group_by) (plan_order w.order_by) frame)
      → RunAtMost (window_plan w).tree frame k0 k
  at_most k up bound = record { rises = up; cost = by (is_flat (under w.out_name w.phys_function.tree) && (are_flat (plan_trees w.group_by) && is_flat_order (plan_order w.order_by))) refl }
    where
      by : (b : Bool) → (is_flat (under w.out_name w.phys_function.tree) && (are_flat (plan_trees w.group_by) && is_flat_order (plan_order w.order_by))) ≡ b
          → IfSome (cond b (Some (0 + nodes_of (window_plan w).tree + sorting_cost (plan_trees w.group_by) (plan_order w.order_by) frame)) None) (λ n. k ≤ k0 + n)
      by true h =
          let first = both (is_flat (under w.out_name w.phys_function.tree)) (are_flat (plan_trees w.group_by) && is_flat_order (plan_order w.order_by)) h in
          let rest = both (are_flat (plan_trees w.group_by)) (is_flat_order (plan_order w.order_by)) first.1 in
          let most = bound (sym (under_flat w.out_name w.phys_function.tree) ∙ first.0) rest.0 rest.1 in
          let nodes = under_nodes w.out_name w.phys_function.tree in
          omega (arith, most, nodes)
      by false h = tt

  -- the kernels of a window whose keys are evaluated
  pub window_cost_keys : RunAtMost (window_plan w).tree frame k0 k1
  window_cost_keys = at_most k1 rises (λ f k o. let keys = keys_most w.group_by frame k0 k1 keys_cost k in omega (arith, keys))

  -- and what its rows are ordered by
  pub window_cost_order : (k2 : ℕ) → RunOrderAtMost w.order_by frame k1 k2 → RunAtMost (window_plan w).tree frame k0 k2
  window_cost_order k2 ordered =
      let up = order_rises w.order_by frame k1 k2 ordered in
      at_most k2 (omega (arith, rises, up))
      (λ f k o. let keys = keys_most w.group_by frame k0 k1 keys_cost k in let order = order_most w.order_by frame k1 k2 ordered o in omega (arith, keys, order))

  module _ (keys : List NamedCell) (order : OrderCell) (are : AreCellsOf w.group_by frame keys) (is : IsOrderOf w.order_by frame order) (k2 k3 : ℕ) (ordered : RunOrderAtMost w.order_by frame k1 k2)
      (parted : k2 ≤ k3) (most : k3 ≤ k2 + part_count (height frame) keys order) (none : order ≡ None → k3 ≡ k2) where
    sorted : k3 ≤ k2 + sorting_cost (plan_trees w.group_by) (plan_order w.order_by) frame
    sorted = sorting_most w frame keys order w.order_by k2 k3 refl are is most none

    -- and whose rows are grouped
    pub window_cost_parts : RunAtMost (window_plan w).tree frame k0 k3
    window_cost_parts =
        let up = order_rises w.order_by frame k1 k2 ordered in
        at_most k3 (omega (arith, rises, up, parted))
        (λ f k o. let first = keys_most w.group_by frame k0 k1 keys_cost k in let second = order_most w.order_by frame k1 k2 ordered o in omega (arith, first, second, sorted))

    -- and whose function is evaluated on n groups
    pub window_cost : (n k4 : ℕ) → RunOnGroups w.phys_function.tree n k3 k4 → RunAtMost (window_plan w).tree frame k0 k4
    window_cost n k4 ran =
        let up = order_rises w.order_by frame k1 k2 ordered in
        at_most k4 (omega (arith, rises, up, parted, ran.rises))
        (λ f k o.
        let first = keys_most w.group_by frame k0 k1 keys_cost k in
        let second = order_most w.order_by frame k1 k2 ordered o in
        let last : k4 ≤ k3 + nodes_of w.phys_function.tree = subst (λ b. k4 ≤ k3 + cond b (nodes_of w.phys_function.tree) (nodes_of w.phys_function.tree * (n + 1))) f ran.cost in
        omega (arith, first, second, sorted, last))

-- how often rows are grouped for what a window is ordered by
order_grouped : (o : Option (Planned × SortOptions)) (old new : ℕ) → GroupedOrderAtMost o old new → (old ≤ new) × (new ≤ old + order_windows_in (plan_order o))
order_grouped None old new h = (omega (arith, h), omega (arith, h))
order_grouped (Some o) old new h = (h.rises, h.most)

module _ (w : PlannedWindow) (g0 g1 : ℕ) (keys : GroupedAllAtMost (plan_trees w.group_by) g0 g1) where
  -- rows are grouped for the windows in the keys
  pub window_grouped_keys : GroupedAtMost (window_plan w).tree g0 g1
  window_grouped_keys = record { rises = keys.rises; most = omega (arith, keys.most) }

  module _ (g2 : ℕ) (order : GroupedOrderAtMost w.order_by g1 g2) where
    -- for those in the order
    pub window_grouped_order : GroupedAtMost (window_plan w).tree g0 g2
    window_grouped_order =
        let more = order_grouped w.order_by g1 g2 order in
        record { rises = omega (arith, keys.rises, more.0); most = omega (arith, keys.most, more.1) }

    -- and once for the window itself
    pub window_grouped : (g3 : ℕ) → g2 ≤ g3 → g3 ≤ g2 + 1 → GroupedAtMost (window_plan w).tree g0 g3
    window_grouped g3 rises most =
        let more = order_grouped w.order_by g1 g2 order in
        record { rises = omega (arith, keys.rises, more.0, rises); most = omega (arith, keys.most, more.1, most) }

-- exactly so often where all is evaluated
pub window_grouped_exactly : (w : PlannedWindow) (g0 g1 g2 g3 : ℕ) → g1 ≡ g0 + all_windows_in (plan_trees w.group_by) → g2 ≡ g1 + order_windows_in (plan_order w.order_by) → g3 ≡ g2 + 1 → g3 ≡ g0 + windows_in (window_plan w).tree
window_grouped_exactly w g0 g1 g2 g3 keys order one = omega (arith, keys, order, one)
