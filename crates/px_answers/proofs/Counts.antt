-- How often kernels run at a node, from how often they run at its inputs.
use Rattle.std.proofs.Common.{◌≡◌, ℕ, ◌+◌, ◌≤◌, Bool, true, false, cond, ◌&&◌, ◌||◌, List, Some, None, IfSome, refl, subst, arith}
use Rattle.px_frame.specs.External.{Frame}
use Rattle.px_value.specs.declared.cast_options.CastOptions.{CastOptions}
use Rattle.px_value.specs.declared.cast_options.CastOptions.TheVariants.{Strict, NonStrict, Overflowing}
use Rattle.px_value.specs.declared.method.GroupByMethod.{GroupByMethod}
use Rattle.px_value.specs.declared.operator.Operator.{Operator}
use Rattle.px_column.specs.Prelude.{Kind}
use Rattle.px_tree.specs.Cost.{is_flat, is_flat_rows, window_cost, sorting_cost, are_flat, is_flat_order}
use Rattle.px_tree.specs.Nodes.{nodes_of}
use Rattle.px_tree.specs.Tree.{Tree, alias, binary, ternary, cast, agg, window}
use Rattle.px_answers.specs.Counted.{RunAtMost, RunExactly}

-- flat rows are flat
pub rows_flat : (e : Tree) → is_flat_rows e ≡ true → is_flat e ≡ true
rows_flat e h = rw h refl

-- the bound of flat rows
rows_cost : (e : Tree) (f : Frame) (old new : ℕ) → RunAtMost e f old new → is_flat_rows e ≡ true → new ≤ old + nodes_of e
rows_cost e f old new r h = subst (λ b. IfSome (cond b (Some (nodes_of e)) (window_cost 0 e f)) (λ n. new ≤ old + n)) (rows_flat e h) r.cost

-- where an expression is no window, a bound where it is flat is enough
at_most : (e : Tree) (f : Frame) (old new : ℕ) → window_cost 0 e f ≡ None → old ≤ new → (is_flat e ≡ true → new ≤ old + nodes_of e) → RunAtMost e f old new
at_most e f old new w h k = record { rises = h; cost = by (is_flat e) refl }
  where
    by : (b : Bool) → is_flat e ≡ b → IfSome (cond b (Some (nodes_of e)) (window_cost 0 e f)) (λ n. new ≤ old + n)
    by true t = k t
    by false t = rw w tt

pub and_left : (a b : Bool) → (a && b) ≡ true → a ≡ true
and_left true b h = refl
and_left false b h = absurd (cc h)

pub and_right : (a b : Bool) → (a && b) ≡ true → b ≡ true
and_right true b h = h
and_right false b h = absurd (cc h)

pub or_none : (a : Bool) → (a || false) ≡ true → a ≡ true
or_none true h = refl
or_none false h = absurd (cc h)

-- operators
pub binary_flat : (l r : Tree) (op : Operator) → is_flat (binary l op r) ≡ true → (is_flat_rows l ≡ true) × (is_flat_rows r ≡ true)
binary_flat l r op h =
    let rows = or_none (is_flat_rows l && is_flat_rows r) h in
    (and_left (is_flat_rows l) (is_flat_rows r) rows, and_right (is_flat_rows l) (is_flat_rows r) rows)

pub binary_ticks : (l r : Tree) (op : Operator) (i j k m : ℕ) → RunExactly l i j → RunExactly r j k → m ≡ k + 1 → RunExactly (binary l op r) i m
binary_ticks l r op i j k m x y z t =
    let rows = binary_flat l r op t in
    omega (arith, x (rows_flat l rows.0), y (rows_flat r rows.1), z)

pub binary_cost : (l r : Tree) (op : Operator) (f : Frame) (i j k m : ℕ) → RunAtMost l f i j → RunAtMost r f j k → k ≤ m → m ≤ k + 1 → RunAtMost (binary l op r) f i m
binary_cost l r op f i j k m x y a b =
    at_most (binary l op r) f i m refl (omega (arith, x.rises, y.rises, a))
    (λ t. let rows = binary_flat l r op t in omega (arith, b, rows_cost l f i j x rows.0, rows_cost r f j k y rows.1))

pub binary_cost_left : (l r : Tree) (op : Operator) (f : Frame) (i j : ℕ) → RunAtMost l f i j → RunAtMost (binary l op r) f i j
binary_cost_left l r op f i j x =
    at_most (binary l op r) f i j refl x.rises (λ t. let rows = binary_flat l r op t in omega (arith, rows_cost l f i j x rows.0))

pub binary_cost_right : (l r : Tree) (op : Operator) (f : Frame) (i j k : ℕ) → RunAtMost l f i j → RunAtMost r f j k → RunAtMost (binary l op r) f i k
binary_cost_right l r op f i j k x y =
    at_most (binary l op r) f i k refl (omega (arith, x.rises, y.rises))
    (λ t. let rows = binary_flat l r op t in omega (arith, rows_cost l f i j x rows.0, rows_cost r f j k y rows.1))

-- ternaries
pub ternary_flat : (p a b : Tree) → is_flat (ternary p a b) ≡ true → (is_flat_rows p ≡ true) × (is_flat_rows a ≡ true) × (is_flat_rows b ≡ true)
ternary_flat p a b h =
    let rows = or_none (is_flat_rows p && (is_flat_rows a && is_flat_rows b)) h in
    let branches = and_right (is_flat_rows p) (is_flat_rows a && is_flat_rows b) rows in
    (and_left (is_flat_rows p) (is_flat_rows a && is_flat_rows b) rows, and_left (is_flat_rows a) (is_flat_rows b) branches, and_right (is_flat_rows a) (is_flat_rows b) branches)

pub ternary_ticks : (p a b : Tree) (i j k l m : ℕ) → RunExactly p i j → RunExactly a j k → RunExactly b k l → m ≡ l + 1 → RunExactly (ternary p a b) i m
ternary_ticks p a b i j k l m x y z w t =
    let rows = ternary_flat p a b t in
    omega (arith, x (rows_flat p rows.0), y (rows_flat a rows.1), z (rows_flat b rows.2), w)

pub ternary_cost : (p a b : Tree) (f : Frame) (i j k l m : ℕ) → RunAtMost p f i j → RunAtMost a f j k → RunAtMost b f k l → l ≤ m → m ≤ l + 1 → RunAtMost (ternary p a b) f i m
ternary_cost p a b f i j k l m x y z u v =
    at_most (ternary p a b) f i m refl (omega (arith, x.rises, y.rises, z.rises, u))
    (λ t. let rows = ternary_flat p a b t in omega (arith, v, rows_cost p f i j x rows.0, rows_cost a f j k y rows.1, rows_cost b f k l z rows.2))

pub ternary_cost_one : (p a b : Tree) (f : Frame) (i j : ℕ) → RunAtMost p f i j → RunAtMost (ternary p a b) f i j
ternary_cost_one p a b f i j x =
    at_most (ternary p a b) f i j refl x.rises (λ t. let rows = ternary_flat p a b t in omega (arith, rows_cost p f i j x rows.0))

pub ternary_cost_two : (p a b : Tree) (f : Frame) (i j k : ℕ) → RunAtMost p f i j → RunAtMost a f j k → RunAtMost (ternary p a b) f i k
ternary_cost_two p a b f i j k x y =
    at_most (ternary p a b) f i k refl (omega (arith, x.rises, y.rises))
    (λ t. let rows = ternary_flat p a b t in omega (arith, rows_cost p f i j x rows.0, rows_cost a f j k y rows.1))

pub ternary_cost_three : (p a b : Tree) (f : Frame) (i j k l : ℕ) → RunAtMost p f i j → RunAtMost a f j k → RunAtMost b f k l → RunAtMost (ternary p a b) f i l
ternary_cost_three p a b f i j k l x y z =
    at_most (ternary p a b) f i l refl (omega (arith, x.rises, y.rises, z.rises))
    (λ t. let rows = ternary_flat p a b t in omega (arith, rows_cost p f i j x rows.0, rows_cost a f j k y rows.1, rows_cost b f k l z rows.2))

-- casts
pub cast_flat : (e : Tree) (to : Kind) (o : CastOptions) → is_flat (cast e to o) ≡ true → is_flat_rows e ≡ true
cast_flat e to Strict h = absurd (cc h)
cast_flat e to NonStrict h = or_none (is_flat_rows e) h
cast_flat e to Overflowing h = or_none (is_flat_rows e) h

pub cast_ticks : (e : Tree) (to : Kind) (o : CastOptions) (i j m : ℕ) → RunExactly e i j → m ≡ j + 1 → RunExactly (cast e to o) i m
cast_ticks e to o i j m x z t = omega (arith, x (rows_flat e (cast_flat e to o t)), z)

pub cast_cost : (e : Tree) (to : Kind) (o : CastOptions) (f : Frame) (i j m : ℕ) → RunAtMost e f i j → j ≤ m → m ≤ j + 1 → RunAtMost (cast e to o) f i m
cast_cost e to o f i j m x a b =
    at_most (cast e to o) f i m refl (omega (arith, x.rises, a)) (λ t. omega (arith, b, rows_cost e f i j x (cast_flat e to o t)))

pub cast_cost_input : (e : Tree) (to : Kind) (o : CastOptions) (f : Frame) (i j : ℕ) → RunAtMost e f i j → RunAtMost (cast e to o) f i j
cast_cost_input e to o f i j x =
    at_most (cast e to o) f i j refl x.rises (λ t. omega (arith, rows_cost e f i j x (cast_flat e to o t)))

-- reductions
pub reduction_ticks : (e : Tree) (method : GroupByMethod) (i j m : ℕ) → RunExactly e i j → m ≡ j + 1 → RunExactly (agg method e) i m
reduction_ticks e method i j m x z t = omega (arith, x (rows_flat e t), z)

pub reduction_cost : (e : Tree) (method : GroupByMethod) (f : Frame) (i j m : ℕ) → RunAtMost e f i j → j ≤ m → m ≤ j + 1 → RunAtMost (agg method e) f i m
reduction_cost e method f i j m x a b =
    at_most (agg method e) f i m refl (omega (arith, x.rises, a)) (λ t. omega (arith, b, rows_cost e f i j x t))

pub reduction_cost_input : (e : Tree) (method : GroupByMethod) (f : Frame) (i j : ℕ) → RunAtMost e f i j → RunAtMost (agg method e) f i j
reduction_cost_input e method f i j x = at_most (agg method e) f i j refl x.rises (λ t. omega (arith, rows_cost e f i j x t))

-- aliases, which run no kernel
alias_window : (n : ℕ) (e : Tree) (f : Frame) (old new : ℕ) → IfSome (window_cost n e f) (λ k. new ≤ old + k) → IfSome (window_cost (n + 1) e f) (λ k. new ≤ old + k)
alias_window n (alias e name) f old new h = alias_window (n + 1) e f old new h
alias_window n (window e keys order mapping) f old new h = by (is_flat e && (are_flat keys && is_flat_order order)) h
  where
    by : (b : Bool) → IfSome (cond b (Some (n + nodes_of (window e keys order mapping) + sorting_cost keys order f)) None) (λ k. new ≤ old + k)
        → IfSome (cond b (Some (n + 1 + nodes_of (window e keys order mapping) + sorting_cost keys order f)) None) (λ k. new ≤ old + k)
    by true k = omega (arith, k)
    by false k = tt
alias_window n _ f old new h = tt

alias_cost : (e : Tree) (name : List ℕ) (f : Frame) (i j : ℕ) → RunAtMost e f i j → RunAtMost (alias e name) f i j
alias_cost e name f i j x = record { rises = x.rises; cost = by (is_flat e) x.cost }
  where
    by : (b : Bool) → IfSome (cond b (Some (nodes_of e)) (window_cost 0 e f)) (λ n. j ≤ i + n) → IfSome (cond b (Some (nodes_of e + 1)) (window_cost 1 e f)) (λ n. j ≤ i + n)
    by true k = omega (arith, k)
    by false k = alias_window 0 e f i j k

pub alias_most : (p e : Tree) (name : List ℕ) (f : Frame) (i j : ℕ) → p ≡ alias e name → RunAtMost e f i j → RunAtMost p f i j
alias_most p e name f i j s x = rw s (alias_cost e name f i j x)
