-- How often kernels run at a node on groups, from how often they run at its inputs.
use Rattle.std.proofs.Common.{◌≡◌, ℕ, ◌+◌, ◌*◌, ◌≤◌, Bool, true, false, cond, ◌&&◌, ◌||◌, List, Result, Ok, Err, OnOk, length, refl, subst, arith, add-mul, mul-add}
use Rattle.px_column.specs.Prelude.{Kind}
use Rattle.px_value.specs.declared.cast_options.CastOptions.{CastOptions}
use Rattle.px_value.specs.declared.cast_options.CastOptions.TheVariants.{Strict, NonStrict, Overflowing}
use Rattle.px_value.specs.declared.method.GroupByMethod.{GroupByMethod}
use Rattle.px_value.specs.declared.operator.Operator.{Operator}
use Rattle.px_value.specs.declared.sort_options.SortMultipleOptions.{SortMultipleOptions}
use Rattle.px_value.specs.declared.error.PxError.{PxError}
use Rattle.px_frame.specs.External.{Frame}
use Rattle.px_frame.specs.Groups.{Groups}
use Rattle.px_tree.specs.Cost.{are_flat_rows, is_flat, is_flat_rows, ticks_of}
use Rattle.px_tree.specs.Nodes.{all_nodes_of, nodes_of}
use Rattle.px_tree.specs.Partition.{is_row_function}
use Rattle.px_tree.specs.Tree.{Call, Tree, Trees, called, no_trees, one_tree, alias, binary, ternary, cast, function, sort_by, agg}
use Rattle.px_context.specs.Built.{is_unit_literal}
use Rattle.px_context.specs.Built.{is_flat as is_flat_layout}
use Rattle.px_context.specs.Context.{Context}
use Rattle.px_lanes.specs.Casting.{is_strict}
use Rattle.px_lanes.specs.Lane.{has_lane}
use Rattle.px_group_nodes.specs.Function.{first_count}
use Rattle.px_group_nodes.specs.Lanes.{have_lanes}
use Rattle.px_group_nodes.specs.Reduction.{reduces_at_once}
use Rattle.px_answers.proofs.Counts.{and_left, and_right, binary_flat, cast_flat, or_none, rows_flat, ternary_flat}
use Rattle.px_answers.specs.Counted.{RunAllExactly, RunExactly}
use Rattle.px_answers.specs.Parts.{plan_trees}
use Rattle.px_answers.specs.Planned.{Planned}
use Rattle.px_group_answers.proofs.Lists.{counted_first, lanes_of}
use Rattle.px_group_answers.specs.Counted.{RunAllOnGroups, RunOnGroups}
use Rattle.px_group_answers.specs.OnGroups.{AreContextsOf, IsContextOf}

-- one kernel a node is no more than one a node for each group and once more
once_within : (k n : ℕ) → k ≤ k * (n + 1)
once_within k n = let apart : k * (n + 1) ≡ k * n + k * 1 = mul-add k n 1 in omega (arith, apart)

-- a bound that holds of every expression
most_on_groups : (e : Tree) (n old new : ℕ) → RunOnGroups e n old new → new ≤ old + nodes_of e * (n + 1)
most_on_groups e n old new r = by (is_flat e) r.cost
  where
    by : (b : Bool) → new ≤ old + (cond b (nodes_of e) (nodes_of e * (n + 1))) → new ≤ old + nodes_of e * (n + 1)
    by true h = let within = once_within (nodes_of e) n in omega (arith, h, within)
    by false h = h

-- the bound of flat rows
rows_on_groups : (e : Tree) (n old new : ℕ) → RunOnGroups e n old new → is_flat_rows e ≡ true → new ≤ old + nodes_of e
rows_on_groups e n old new r h = subst (λ b. new ≤ old + (cond b (nodes_of e) (nodes_of e * (n + 1)))) (rows_flat e h) r.cost

-- nothing ran
pub idle_cost : (e : Tree) (n i : ℕ) → RunOnGroups e n i i
idle_cost e n i = record { rises = omega arith; cost = by (is_flat e) }
  where
    by : (b : Bool) → i ≤ i + (cond b (nodes_of e) (nodes_of e * (n + 1)))
    by true = omega arith
    by false = omega arith

-- nothing ran at an expression without kernels
pub idle_ticks : (e : Tree) (i : ℕ) → ticks_of e ≡ 0 → RunExactly e i i
idle_ticks e i h t = omega (arith, h)

-- what is not flat owes no number of kernels
pub unflat_ticks : (e : Tree) (i m : ℕ) → is_flat e ≡ false → RunExactly e i m
unflat_ticks e i m h t = absurd (cc (h, t))

-- the same of what a call answers
pub unflat_ticks_told : (q : Result Context PxError) (e : Tree) (i m : ℕ) → is_flat e ≡ false → OnOk q (RunExactly e i m)
unflat_ticks_told (Ok x) e i m h = unflat_ticks e i m h
unflat_ticks_told (Err w) e i m h = tt

-- nothing ran at some expressions
pub none_run : (es : Trees) (n i : ℕ) → RunAllOnGroups es n i i
none_run es n i = record { rises = omega arith; flat = λ h. omega arith; cost = omega arith }

-- one expression ran, then others
pub one_more_run : (e : Tree) (es : Trees) (n i j k : ℕ) → RunOnGroups e n i j → RunAllOnGroups es n j k → RunAllOnGroups (one_tree e es) n i k
one_more_run e es n i j k r s = record {
  rises = omega (arith, r.rises, s.rises);
  flat = λ h.
      let first = rows_on_groups e n i j r (and_left (is_flat_rows e) (are_flat_rows es) h) in
      let rest = s.flat (and_right (is_flat_rows e) (are_flat_rows es) h) in
      omega (arith, first, rest);
  cost =
      let first = most_on_groups e n i j r in
      let rest = s.cost in
      let apart : (nodes_of e + all_nodes_of es) * (n + 1) ≡ nodes_of e * (n + 1) + all_nodes_of es * (n + 1) = add-mul (nodes_of e) (all_nodes_of es) (n + 1) in
      omega (arith, first, rest, apart);
}

-- only the first of some ran
pub first_run : (e : Tree) (es : Trees) (n i j : ℕ) → RunOnGroups e n i j → RunAllOnGroups (one_tree e es) n i j
first_run e es n i j r = one_more_run e es n i j j r (none_run es n j)

-- a node ran over its inputs: where it is flat, these are and one kernel ran at most, else one for each group and once more
pub node_cost : (e : Tree) (es : Trees) (n i j m : ℕ) → nodes_of e ≡ all_nodes_of es + 1 → RunAllOnGroups es n i j → j ≤ m → m ≤ j + (n + 1) → (is_flat e ≡ true → (are_flat_rows es ≡ true) × (m ≤ j + 1)) → RunOnGroups e n i m
node_cost e es n i j m s r a b f = record { rises = omega (arith, r.rises, a); cost = by (is_flat e) refl }
  where
    by : (x : Bool) → is_flat e ≡ x → m ≤ i + (cond x (nodes_of e) (nodes_of e * (n + 1)))
    by true t =
        let both = f t in
        let first = r.flat both.0 in
        let last = both.1 in
        omega (arith, s, first, last)
    by false t =
        let first = r.cost in
        let apart : (all_nodes_of es + 1) * (n + 1) ≡ all_nodes_of es * (n + 1) + 1 * (n + 1) = add-mul (all_nodes_of es) 1 (n + 1) in
        rw s (omega (arith, first, apart, b))

-- its inputs ran, and nothing more
pub inputs_cost : (e : Tree) (es : Trees) (n i j : ℕ) → nodes_of e ≡ all_nodes_of es + 1 → (is_flat e ≡ true → are_flat_rows es ≡ true) → RunAllOnGroups es n i j → RunOnGroups e n i j
inputs_cost e es n i j s f r = node_cost e es n i j j s r (omega arith) (omega arith) (λ t. (f t, omega arith))

-- a node of one input
pub one_cost : (e t : Tree) (n i j m : ℕ) → nodes_of e ≡ nodes_of t + 1 → RunOnGroups t n i j → j ≤ m → m ≤ j + (n + 1) → (is_flat e ≡ true → (is_flat_rows t ≡ true) × (m ≤ j + 1)) → RunOnGroups e n i m
one_cost e t n i j m s x a b f =
    node_cost e (one_tree t no_trees) n i j m (omega (arith, s)) (first_run t no_trees n i j x) a b (λ h. let k = f h in (rw (k.0) refl, k.1))

-- its input ran, and nothing more
pub one_cost_input : (e t : Tree) (n i j : ℕ) → nodes_of e ≡ nodes_of t + 1 → RunOnGroups t n i j → (is_flat e ≡ true → is_flat_rows t ≡ true) → RunOnGroups e n i j
one_cost_input e t n i j s x f = one_cost e t n i j j s x (omega arith) (omega arith) (λ h. (f h, omega arith))

-- a node of two inputs
pub two_cost : (e l r : Tree) (n i j k m : ℕ) → nodes_of e ≡ nodes_of l + nodes_of r + 1 → RunOnGroups l n i j → RunOnGroups r n j k → k ≤ m → m ≤ k + (n + 1)
    → (is_flat e ≡ true → (is_flat_rows l ≡ true) × (is_flat_rows r ≡ true) × (m ≤ k + 1)) → RunOnGroups e n i m
two_cost e l r n i j k m s x y a b f =
    node_cost e (one_tree l (one_tree r no_trees)) n i k m (omega (arith, s)) (one_more_run l (one_tree r no_trees) n i j k x (first_run r no_trees n j k y)) a b (λ h. let q = f h in (rw (q.0, q.1) refl, q.2))

-- its first input ran, and nothing more
pub two_cost_first : (e l r : Tree) (n i j : ℕ) → nodes_of e ≡ nodes_of l + nodes_of r + 1 → RunOnGroups l n i j → (is_flat e ≡ true → (is_flat_rows l ≡ true) × (is_flat_rows r ≡ true)) → RunOnGroups e n i j
two_cost_first e l r n i j s x f = two_cost e l r n i j j j s x (idle_cost r n j) (omega arith) (omega arith) (λ h. let q = f h in (q.0, q.1, omega arith))

-- both ran, and nothing more
pub two_cost_inputs : (e l r : Tree) (n i j k : ℕ) → nodes_of e ≡ nodes_of l + nodes_of r + 1 → RunOnGroups l n i j → RunOnGroups r n j k → (is_flat e ≡ true → (is_flat_rows l ≡ true) × (is_flat_rows r ≡ true)) → RunOnGroups e n i k
two_cost_inputs e l r n i j k s x y f = two_cost e l r n i j k k s x y (omega arith) (omega arith) (λ h. let q = f h in (q.0, q.1, omega arith))

-- a node of three inputs
pub three_cost : (e p a b : Tree) (n i j k l m : ℕ) → nodes_of e ≡ nodes_of p + nodes_of a + nodes_of b + 1 → RunOnGroups p n i j → RunOnGroups a n j k → RunOnGroups b n k l → l ≤ m → m ≤ l + (n + 1)
    → (is_flat e ≡ true → (is_flat_rows p ≡ true) × (is_flat_rows a ≡ true) × (is_flat_rows b ≡ true) × (m ≤ l + 1)) → RunOnGroups e n i m
three_cost e p a b n i j k l m s x y z u v f =
    node_cost e (one_tree p (one_tree a (one_tree b no_trees))) n i l m (omega (arith, s))
    (one_more_run p (one_tree a (one_tree b no_trees)) n i j l x (one_more_run a (one_tree b no_trees) n j k l y (first_run b no_trees n k l z))) u v (λ h. let q = f h in (rw (q.0, q.1, q.2) refl, q.3))

-- its first input ran, and nothing more
pub three_cost_first : (e p a b : Tree) (n i j : ℕ) → nodes_of e ≡ nodes_of p + nodes_of a + nodes_of b + 1 → RunOnGroups p n i j → (is_flat e ≡ true → (is_flat_rows p ≡ true) × (is_flat_rows a ≡ true) × (is_flat_rows b ≡ true)) → RunOnGroups e n i j
three_cost_first e p a b n i j s x f =
    three_cost e p a b n i j j j j s x (idle_cost a n j) (idle_cost b n j) (omega arith) (omega arith) (λ h. let q = f h in (q.0, q.1, q.2, omega arith))

-- its first two inputs ran, and nothing more
pub three_cost_second : (e p a b : Tree) (n i j k : ℕ) → nodes_of e ≡ nodes_of p + nodes_of a + nodes_of b + 1 → RunOnGroups p n i j → RunOnGroups a n j k → (is_flat e ≡ true → (is_flat_rows p ≡ true) × (is_flat_rows a ≡ true) × (is_flat_rows b ≡ true)) → RunOnGroups e n i k
three_cost_second e p a b n i j k s x y f =
    three_cost e p a b n i j k k k s x y (idle_cost b n k) (omega arith) (omega arith) (λ h. let q = f h in (q.0, q.1, q.2, omega arith))

-- all three ran, and nothing more
pub three_cost_inputs : (e p a b : Tree) (n i j k l : ℕ) → nodes_of e ≡ nodes_of p + nodes_of a + nodes_of b + 1 → RunOnGroups p n i j → RunOnGroups a n j k → RunOnGroups b n k l
    → (is_flat e ≡ true → (is_flat_rows p ≡ true) × (is_flat_rows a ≡ true) × (is_flat_rows b ≡ true)) → RunOnGroups e n i l
three_cost_inputs e p a b n i j k l s x y z f = three_cost e p a b n i j k l l s x y z (omega arith) (omega arith) (λ h. let q = f h in (q.0, q.1, q.2, omega arith))

-- the kernels of an operator on flat rows, whose contexts each read from one cell
pub binary_group_ticks : (l r : Planned) (op : Operator) (frame : Frame) (g : Groups) (a b : Context) (i j k m : ℕ) → IsContextOf l frame g a → IsContextOf r frame g b → RunExactly l.tree i j → RunExactly r.tree j k → (has_lane a ≡ true → has_lane b ≡ true → m ≡ k + 1)
    → RunExactly (binary l.tree op r.tree) i m
binary_group_ticks l r op frame g a b i j k m c d x y z t =
    let rows = binary_flat l.tree r.tree op t in
    let once : m ≡ k + 1 = z (c.lane rows.0) (d.lane rows.1) in
    omega (arith, x (rows_flat l.tree rows.0), y (rows_flat r.tree rows.1), once)

-- the same of what a call answers
pub binary_group_ticks_told : (q : Result Context PxError) (l r : Planned) (op : Operator) (frame : Frame) (g : Groups) (a b : Context) (i j k m : ℕ) → IsContextOf l frame g a → IsContextOf r frame g b → RunExactly l.tree i j → RunExactly r.tree j k
    → (has_lane a ≡ true → has_lane b ≡ true → OnOk q (m ≡ k + 1)) → OnOk q (RunExactly (binary l.tree op r.tree) i m)
binary_group_ticks_told (Ok v) l r op frame g a b i j k m c d x y z = binary_group_ticks l r op frame g a b i j k m c d x y z
binary_group_ticks_told (Err e) l r op frame g a b i j k m c d x y z = tt

-- the cost of an operator, with that of its operands
pub binary_group_cost : (l r : Planned) (op : Operator) (frame : Frame) (g : Groups) (a b : Context) (i j k m : ℕ) → IsContextOf l frame g a → IsContextOf r frame g b → RunOnGroups l.tree (length g.groups) i j → RunOnGroups r.tree (length g.groups) j k
    → k ≤ m → m ≤ k + (length a.groups.groups + 1) → (has_lane a ≡ true → has_lane b ≡ true → m ≤ k + 1) → RunOnGroups (binary l.tree op r.tree) (length g.groups) i m
binary_group_cost l r op frame g a b i j k m c d x y u v w =
    let count : length a.groups.groups ≡ length g.groups = c.count in
    two_cost (binary l.tree op r.tree) l.tree r.tree (length g.groups) i j k m refl x y u (omega (arith, v, count))
    (λ t. let rows = binary_flat l.tree r.tree op t in (rows.0, rows.1, w (c.lane rows.0) (d.lane rows.1)))

-- where only the left operand ran
pub binary_group_cost_left : (l r : Tree) (op : Operator) (n i j : ℕ) → RunOnGroups l n i j → RunOnGroups (binary l op r) n i j
binary_group_cost_left l r op n i j x = two_cost_first (binary l op r) l r n i j refl x (binary_flat l r op)

-- where both operands ran, and nothing more
pub binary_group_cost_inputs : (l r : Tree) (op : Operator) (n i j k : ℕ) → RunOnGroups l n i j → RunOnGroups r n j k → RunOnGroups (binary l op r) n i k
binary_group_cost_inputs l r op n i j k x y = two_cost_inputs (binary l op r) l r n i j k refl x y (binary_flat l r op)

-- the kernels of a ternary on flat rows
pub ternary_group_ticks : (p q r : Planned) (frame : Frame) (g : Groups) (a b c : Context) (i j k l m : ℕ) → IsContextOf p frame g a → IsContextOf q frame g b → IsContextOf r frame g c → RunExactly p.tree i j → RunExactly q.tree j k → RunExactly r.tree k l
    → (has_lane a ≡ true → has_lane b ≡ true → has_lane c ≡ true → m ≡ l + 1) → RunExactly (ternary p.tree q.tree r.tree) i m
ternary_group_ticks p q r frame g a b c i j k l m d e f x y z w t =
    let rows = ternary_flat p.tree q.tree r.tree t in
    let once : m ≡ l + 1 = w (d.lane rows.0) (e.lane rows.1) (f.lane rows.2) in
    omega (arith, x (rows_flat p.tree rows.0), y (rows_flat q.tree rows.1), z (rows_flat r.tree rows.2), once)

-- the same of what a call answers
pub ternary_group_ticks_told : (s : Result Context PxError) (p q r : Planned) (frame : Frame) (g : Groups) (a b c : Context) (i j k l m : ℕ) → IsContextOf p frame g a → IsContextOf q frame g b → IsContextOf r frame g c → RunExactly p.tree i j → RunExactly q.tree j k
    → RunExactly r.tree k l → (has_lane a ≡ true → has_lane b ≡ true → has_lane c ≡ true → OnOk s (m ≡ l + 1)) → OnOk s (RunExactly (ternary p.tree q.tree r.tree) i m)
ternary_group_ticks_told (Ok v) p q r frame g a b c i j k l m d f h x y z w = ternary_group_ticks p q r frame g a b c i j k l m d f h x y z w
ternary_group_ticks_told (Err e) p q r frame g a b c i j k l m d f h x y z w = tt

-- the cost of a ternary, with that of its inputs
pub ternary_group_cost : (p q r : Planned) (frame : Frame) (g : Groups) (a b c : Context) (i j k l m : ℕ) → IsContextOf p frame g a → IsContextOf q frame g b → IsContextOf r frame g c
    → RunOnGroups p.tree (length g.groups) i j → RunOnGroups q.tree (length g.groups) j k → RunOnGroups r.tree (length g.groups) k l → l ≤ m → m ≤ l + (length a.groups.groups + 1)
    → (has_lane a ≡ true → has_lane b ≡ true → has_lane c ≡ true → m ≤ l + 1) → RunOnGroups (ternary p.tree q.tree r.tree) (length g.groups) i m
ternary_group_cost p q r frame g a b c i j k l m d e f x y z u v w =
    let count : length a.groups.groups ≡ length g.groups = d.count in
    three_cost (ternary p.tree q.tree r.tree) p.tree q.tree r.tree (length g.groups) i j k l m refl x y z u (omega (arith, v, count))
    (λ t. let rows = ternary_flat p.tree q.tree r.tree t in (rows.0, rows.1, rows.2, w (d.lane rows.0) (e.lane rows.1) (f.lane rows.2)))

-- where only the predicate ran
pub ternary_group_cost_first : (p a b : Tree) (n i j : ℕ) → RunOnGroups p n i j → RunOnGroups (ternary p a b) n i j
ternary_group_cost_first p a b n i j x = three_cost_first (ternary p a b) p a b n i j refl x (ternary_flat p a b)

-- where the predicate and the first branch ran, and nothing more
pub ternary_group_cost_second : (p a b : Tree) (n i j k : ℕ) → RunOnGroups p n i j → RunOnGroups a n j k → RunOnGroups (ternary p a b) n i k
ternary_group_cost_second p a b n i j k x y = three_cost_second (ternary p a b) p a b n i j k refl x y (ternary_flat p a b)

-- where all three ran, and nothing more
pub ternary_group_cost_inputs : (p a b : Tree) (n i j k l : ℕ) → RunOnGroups p n i j → RunOnGroups a n j k → RunOnGroups b n k l → RunOnGroups (ternary p a b) n i l
ternary_group_cost_inputs p a b n i j k l x y z = three_cost_inputs (ternary p a b) p a b n i j k l refl x y z (ternary_flat p a b)

-- a cast that is flat is not strict
loose_cast : (e : Tree) (to : Kind) (o : CastOptions) → is_flat (cast e to o) ≡ true → is_strict o ≡ false
loose_cast e to Strict h = absurd (cc h)
loose_cast e to NonStrict h = refl
loose_cast e to Overflowing h = refl

-- the kernels of a cast of flat rows
pub cast_group_ticks : (p : Planned) (to : Kind) (o : CastOptions) (frame : Frame) (g : Groups) (a : Context) (i j m : ℕ) → IsContextOf p frame g a → RunExactly p.tree i j → (is_strict o ≡ false → has_lane a ≡ true → m ≡ j + 1) → RunExactly (cast p.tree to o) i m
cast_group_ticks p to o frame g a i j m c x z t =
    let rows = cast_flat p.tree to o t in
    let once : m ≡ j + 1 = z (loose_cast p.tree to o t) (c.lane rows) in
    omega (arith, x (rows_flat p.tree rows), once)

-- the same of what a call answers
pub cast_group_ticks_told : (q : Result Context PxError) (p : Planned) (to : Kind) (o : CastOptions) (frame : Frame) (g : Groups) (a : Context) (i j m : ℕ) → IsContextOf p frame g a → RunExactly p.tree i j → (is_strict o ≡ false → has_lane a ≡ true → OnOk q (m ≡ j + 1))
    → OnOk q (RunExactly (cast p.tree to o) i m)
cast_group_ticks_told (Ok v) p to o frame g a i j m c x z = cast_group_ticks p to o frame g a i j m c x z
cast_group_ticks_told (Err e) p to o frame g a i j m c x z = tt

-- the cost of a cast, with that of its input
pub cast_group_cost : (p : Planned) (to : Kind) (o : CastOptions) (frame : Frame) (g : Groups) (a : Context) (i j m : ℕ) → IsContextOf p frame g a → RunOnGroups p.tree (length g.groups) i j
    → j ≤ m → m ≤ j + (length a.groups.groups + 1) → (is_strict o ≡ false → has_lane a ≡ true → m ≤ j + 1) → RunOnGroups (cast p.tree to o) (length g.groups) i m
cast_group_cost p to o frame g a i j m c x u v w =
    let count : length a.groups.groups ≡ length g.groups = c.count in
    one_cost (cast p.tree to o) p.tree (length g.groups) i j m refl x u (omega (arith, v, count))
    (λ t. let rows = cast_flat p.tree to o t in (rows, w (loose_cast p.tree to o t) (c.lane rows)))

-- where only the input of a cast ran
pub cast_group_cost_input : (e : Tree) (to : Kind) (o : CastOptions) (n i j : ℕ) → RunOnGroups e n i j → RunOnGroups (cast e to o) n i j
cast_group_cost_input e to o n i j x = one_cost_input (cast e to o) e n i j refl x (cast_flat e to o)

-- a context that reads from one cell is reduced at once
pub reduces_lane : (c : Context) → has_lane c ≡ true → reduces_at_once c ≡ true
reduces_lane c h = by (is_unit_literal c.layout) c.untouched h
  where
    by : (u t : Bool) → (u || t) ≡ true → (u || (t || is_flat_layout c.layout)) ≡ true
    by true t k = refl
    by false true k = refl
    by false false k = absurd (cc k)

-- the kernels of a reduction of flat rows
pub reduction_group_ticks : (p : Planned) (method : GroupByMethod) (frame : Frame) (g : Groups) (a : Context) (i j m : ℕ) → IsContextOf p frame g a → RunExactly p.tree i j → (reduces_at_once a ≡ true → m ≡ j + 1) → RunExactly (agg method p.tree) i m
reduction_group_ticks p method frame g a i j m c x z t =
    let once : m ≡ j + 1 = z (reduces_lane a (c.lane t)) in
    omega (arith, x (rows_flat p.tree t), once)

-- the same of what a call answers
pub reduction_group_ticks_told : (q : Result Context PxError) (p : Planned) (method : GroupByMethod) (frame : Frame) (g : Groups) (a : Context) (i j m : ℕ) → IsContextOf p frame g a → RunExactly p.tree i j → (reduces_at_once a ≡ true → OnOk q (m ≡ j + 1)) → OnOk q (RunExactly (agg method p.tree) i m)
reduction_group_ticks_told (Ok v) p method frame g a i j m c x z = reduction_group_ticks p method frame g a i j m c x z
reduction_group_ticks_told (Err e) p method frame g a i j m c x z = tt

-- the cost of a reduction, with that of its input
pub reduction_group_cost : (p : Planned) (method : GroupByMethod) (frame : Frame) (g : Groups) (a : Context) (i j m : ℕ) → IsContextOf p frame g a → RunOnGroups p.tree (length g.groups) i j
    → j ≤ m → m ≤ j + (length a.groups.groups + 1) → (reduces_at_once a ≡ true → m ≤ j + 1) → RunOnGroups (agg method p.tree) (length g.groups) i m
reduction_group_cost p method frame g a i j m c x u v w =
    let count : length a.groups.groups ≡ length g.groups = c.count in
    one_cost (agg method p.tree) p.tree (length g.groups) i j m refl x u (omega (arith, v, count)) (λ t. (t, w (reduces_lane a (c.lane t))))

-- where only the input of a reduction ran
pub reduction_group_cost_input : (e : Tree) (method : GroupByMethod) (n i j : ℕ) → RunOnGroups e n i j → RunOnGroups (agg method e) n i j
reduction_group_cost_input e method n i j x = one_cost_input (agg method e) e n i j refl x (λ t. t)

-- an alias runs no kernel
pub alias_group_ticks : (p e : Tree) (name : List ℕ) (i j : ℕ) → p ≡ alias e name → RunExactly e i j → RunExactly p i j
alias_group_ticks p e name i j s x = rw s x

-- and costs no more than what it stands over
pub alias_group_cost : (p e : Tree) (name : List ℕ) (n i j : ℕ) → p ≡ alias e name → RunOnGroups e n i j → RunOnGroups p n i j
alias_group_cost p e name n i j s x = rw s (record { rises = x.rises; cost = by (is_flat e) x.cost })
  where
    by : (b : Bool) → j ≤ i + (cond b (nodes_of e) (nodes_of e * (n + 1))) → j ≤ i + (cond b (nodes_of e + 1) ((nodes_of e + 1) * (n + 1)))
    by true h = omega (arith, h)
    by false h =
        let apart : (nodes_of e + 1) * (n + 1) ≡ nodes_of e * (n + 1) + 1 * (n + 1) = add-mul (nodes_of e) 1 (n + 1) in
        omega (arith, h, apart)

-- the cost of what is not flat, with that of its input
pub unflat_one : (e : Tree) (p : Planned) (frame : Frame) (g : Groups) (a : Context) (i j m : ℕ) → is_flat e ≡ false → nodes_of e ≡ nodes_of p.tree + 1 → IsContextOf p frame g a → RunOnGroups p.tree (length g.groups) i j
    → j ≤ m → m ≤ j + (length a.groups.groups + 1) → RunOnGroups e (length g.groups) i m
unflat_one e p frame g a i j m f s c x u v =
    let count : length a.groups.groups ≡ length g.groups = c.count in
    one_cost e p.tree (length g.groups) i j m s x u (omega (arith, v, count)) (λ t. absurd (cc (f, t)))

-- the same of two inputs
pub unflat_two : (e : Tree) (l r : Planned) (frame : Frame) (g : Groups) (a : Context) (i j k m : ℕ) → is_flat e ≡ false → nodes_of e ≡ nodes_of l.tree + nodes_of r.tree + 1 → IsContextOf l frame g a
    → RunOnGroups l.tree (length g.groups) i j → RunOnGroups r.tree (length g.groups) j k → k ≤ m → m ≤ k + (length a.groups.groups + 1) → RunOnGroups e (length g.groups) i m
unflat_two e l r frame g a i j k m f s c x y u v =
    let count : length a.groups.groups ≡ length g.groups = c.count in
    two_cost e l.tree r.tree (length g.groups) i j k m s x y u (omega (arith, v, count)) (λ t. absurd (cc (f, t)))

-- the same of three inputs
pub unflat_three : (e : Tree) (p q r : Planned) (frame : Frame) (g : Groups) (a : Context) (i j k l m : ℕ) → is_flat e ≡ false → nodes_of e ≡ nodes_of p.tree + nodes_of q.tree + nodes_of r.tree + 1 → IsContextOf p frame g a
    → RunOnGroups p.tree (length g.groups) i j → RunOnGroups q.tree (length g.groups) j k → RunOnGroups r.tree (length g.groups) k l → l ≤ m → m ≤ l + (length a.groups.groups + 1) → RunOnGroups e (length g.groups) i m
unflat_three e p q r frame g a i j k l m f s c x y z u v =
    let count : length a.groups.groups ≡ length g.groups = c.count in
    three_cost e p.tree q.tree r.tree (length g.groups) i j k l m s x y z u (omega (arith, v, count)) (λ t. absurd (cc (f, t)))

-- where what is not flat only ran its input
pub unflat_one_input : (e t : Tree) (n i j : ℕ) → is_flat e ≡ false → nodes_of e ≡ nodes_of t + 1 → RunOnGroups t n i j → RunOnGroups e n i j
unflat_one_input e t n i j f s x = one_cost_input e t n i j s x (λ h. absurd (cc (f, h)))

-- where only the first of two inputs ran
pub unflat_two_first : (e l r : Tree) (n i j : ℕ) → is_flat e ≡ false → nodes_of e ≡ nodes_of l + nodes_of r + 1 → RunOnGroups l n i j → RunOnGroups e n i j
unflat_two_first e l r n i j f s x = two_cost_first e l r n i j s x (λ h. absurd (cc (f, h)))

-- where both ran, and nothing more
pub unflat_two_inputs : (e l r : Tree) (n i j k : ℕ) → is_flat e ≡ false → nodes_of e ≡ nodes_of l + nodes_of r + 1 → RunOnGroups l n i j → RunOnGroups r n j k → RunOnGroups e n i k
unflat_two_inputs e l r n i j k f s x y = two_cost_inputs e l r n i j k s x y (λ h. absurd (cc (f, h)))

-- where only the first of three inputs ran
pub unflat_three_first : (e p a b : Tree) (n i j : ℕ) → is_flat e ≡ false → nodes_of e ≡ nodes_of p + nodes_of a + nodes_of b + 1 → RunOnGroups p n i j → RunOnGroups e n i j
unflat_three_first e p a b n i j f s x = three_cost_first e p a b n i j s x (λ h. absurd (cc (f, h)))

-- where the first two ran, and nothing more
pub unflat_three_second : (e p a b : Tree) (n i j k : ℕ) → is_flat e ≡ false → nodes_of e ≡ nodes_of p + nodes_of a + nodes_of b + 1 → RunOnGroups p n i j → RunOnGroups a n j k → RunOnGroups e n i k
unflat_three_second e p a b n i j k f s x y = three_cost_second e p a b n i j k s x y (λ h. absurd (cc (f, h)))

-- where all three ran, and nothing more
pub unflat_three_inputs : (e p a b : Tree) (n i j k l : ℕ) → is_flat e ≡ false → nodes_of e ≡ nodes_of p + nodes_of a + nodes_of b + 1 → RunOnGroups p n i j → RunOnGroups a n j k → RunOnGroups b n k l → RunOnGroups e n i l
unflat_three_inputs e p a b n i j k l f s x y z = three_cost_inputs e p a b n i j k l s x y z (λ h. absurd (cc (f, h)))

-- a function that is flat is one of rows, of inputs of flat rows
function_flat : (es : Trees) (call : Call) → is_flat (function es call) ≡ true → (is_row_function (called call) ≡ true) × (are_flat_rows es ≡ true)
function_flat es call h =
    let rows = or_none (is_row_function (called call) && are_flat_rows es) h in
    (and_left (is_row_function (called call)) (are_flat_rows es) rows, and_right (is_row_function (called call)) (are_flat_rows es) rows)

-- the kernels of a function of flat rows
pub apply_group_ticks : (ps : List Planned) (call : Call) (frame : Frame) (g : Groups) (cs : List Context) (i j m : ℕ) → AreContextsOf ps frame g cs → RunAllExactly (plan_trees ps) i j → (is_row_function (called call) ≡ true → have_lanes cs ≡ true → m ≡ j + 1)
    → RunExactly (function (plan_trees ps) call) i m
apply_group_ticks ps call frame g cs i j m c x z t =
    let rows = function_flat (plan_trees ps) call t in
    let once : m ≡ j + 1 = z rows.0 (lanes_of ps frame g cs c rows.1) in
    omega (arith, x rows.1, once)

-- the same of what a call answers
pub apply_group_ticks_told : (q : Result Context PxError) (ps : List Planned) (call : Call) (frame : Frame) (g : Groups) (cs : List Context) (i j m : ℕ) → AreContextsOf ps frame g cs → RunAllExactly (plan_trees ps) i j
    → (is_row_function (called call) ≡ true → have_lanes cs ≡ true → OnOk q (m ≡ j + 1)) → OnOk q (RunExactly (function (plan_trees ps) call) i m)
apply_group_ticks_told (Ok v) ps call frame g cs i j m c x z = apply_group_ticks ps call frame g cs i j m c x z
apply_group_ticks_told (Err e) ps call frame g cs i j m c x z = tt

-- the cost of a function, with that of its inputs
pub apply_group_cost : (ps : List Planned) (call : Call) (frame : Frame) (g : Groups) (cs : List Context) (i j m : ℕ) → AreContextsOf ps frame g cs → RunAllOnGroups (plan_trees ps) (length g.groups) i j
    → j ≤ m → m ≤ j + (first_count cs + 1) → (is_row_function (called call) ≡ true → have_lanes cs ≡ true → m ≤ j + 1) → RunOnGroups (function (plan_trees ps) call) (length g.groups) i m
apply_group_cost ps call frame g cs i j m c x u v w =
    let count = counted_first ps frame g cs c in
    node_cost (function (plan_trees ps) call) (plan_trees ps) (length g.groups) i j m refl x u (omega (arith, v, count))
    (λ t. let rows = function_flat (plan_trees ps) call t in (rows.1, w rows.0 (lanes_of ps frame g cs c rows.1)))

-- where only its inputs ran, or the first ones of them
pub apply_group_cost_inputs : (es : Trees) (call : Call) (n i j : ℕ) → RunAllOnGroups es n i j → RunOnGroups (function es call) n i j
apply_group_cost_inputs es call n i j x = inputs_cost (function es call) es n i j refl (λ t. (function_flat es call t).1) x

-- the cost of rows in the order of others, which are never flat
pub sort_by_group_cost : (p : Planned) (ps : List Planned) (options : SortMultipleOptions) (frame : Frame) (g : Groups) (a : Context) (i j k m : ℕ) → IsContextOf p frame g a → RunOnGroups p.tree (length g.groups) i j → RunAllOnGroups (plan_trees ps) (length g.groups) j k
    → k ≤ m → m ≤ k + (length a.groups.groups + 1) → RunOnGroups (sort_by p.tree (plan_trees ps) options) (length g.groups) i m
sort_by_group_cost p ps options frame g a i j k m c x y u v =
    let count : length a.groups.groups ≡ length g.groups = c.count in
    node_cost (sort_by p.tree (plan_trees ps) options) (one_tree p.tree (plan_trees ps)) (length g.groups) i k m refl (one_more_run p.tree (plan_trees ps) (length g.groups) i j k x y) u (omega (arith, v, count)) (λ t. absurd (cc t))

-- where only the rows ran
pub sort_by_group_cost_input : (e : Tree) (by : Trees) (options : SortMultipleOptions) (n i j : ℕ) → RunOnGroups e n i j → RunOnGroups (sort_by e by options) n i j
sort_by_group_cost_input e by options n i j x = inputs_cost (sort_by e by options) (one_tree e by) n i j refl (λ t. absurd (cc t)) (first_run e by n i j x)

-- where the rows and the keys ran, and nothing more
pub sort_by_group_cost_inputs : (e : Tree) (by : Trees) (options : SortMultipleOptions) (n i j k : ℕ) → RunOnGroups e n i j → RunAllOnGroups by n j k → RunOnGroups (sort_by e by options) n i k
sort_by_group_cost_inputs e by options n i j k x y = inputs_cost (sort_by e by options) (one_tree e by) n i k refl (λ t. absurd (cc t)) (one_more_run e by n i j k x y)
