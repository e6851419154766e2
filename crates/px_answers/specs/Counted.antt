-- How often kernels ran, and rows were grouped, while expressions were evaluated.
use Rattle.std.specs.Prelude.{◌≡◌, ℕ, ◌+◌, ◌≤◌, true, List, Option, IfSome, option_map, sum, if◌then◌else◌}
use Rattle.std.specs.List.{sum_by}
use Rattle.px_column.specs.Option.{each}
use Rattle.px_frame.specs.External.{Frame}
use Rattle.px_tree.specs.Cost.{is_flat, are_flat_rows, ticks_of, all_ticks_of, cost_on, windows_in, all_windows_in}
use Rattle.px_tree.specs.Nodes.{all_nodes_of}
use Rattle.px_tree.specs.Tree.{Tree, Trees}
use Rattle.px_answers.specs.Planned.{Planned}

-- a count rose by the kernels of an expression, where it is flat
abbrev pub RunExactly : Tree → ℕ → ℕ → Type 0
RunExactly e old new = is_flat e ≡ true → new ≡ old + ticks_of e

-- a count rose by no more than a bound, where there is one
abbrev pub RisesAtMost : Option ℕ → ℕ → ℕ → Type 0
RisesAtMost bound old new = IfSome bound (λ n. new ≤ old + n)

-- a count never fell, and rose by no more than an expression's cost, where it has one
pub record RunAtMost (e : Tree) (frame : Frame) (old new : ℕ) : Type 0 where
  pub rises : old ≤ new
  pub cost : RisesAtMost (cost_on e frame) old new

-- the costs of some expressions on a frame together, where each has one
abbrev pub costs_on : List Tree → Frame → Option ℕ
costs_on es frame = option_map sum (each (λ e. cost_on e frame) es)

-- the same of some expressions, each of which is flat and no reduction
abbrev pub RunAllExactly : Trees → ℕ → ℕ → Type 0
RunAllExactly es old new = are_flat_rows es ≡ true → new ≡ old + all_ticks_of es

pub record RunAllAtMost (es : Trees) (old new : ℕ) : Type 0 where
  pub rises : old ≤ new
  pub cost : are_flat_rows es ≡ true → new ≤ old + all_nodes_of es

-- the kernels of an expression that is flat; of another none are counted
abbrev pub flat_kernels : Tree → ℕ
flat_kernels e = if is_flat e then ticks_of e else 0

-- a count rose at least by the kernels of the flat ones among some expressions
abbrev pub RunAllAtLeast : List Planned → ℕ → ℕ → Type 0
RunAllAtLeast ps old new = old + sum_by (λ p. flat_kernels p.tree) ps ≤ new

-- a count never fell, and rose by no more than the windows of an expression, for each of which rows are grouped
pub record GroupedAtMost (e : Tree) (old new : ℕ) : Type 0 where
  pub rises : old ≤ new
  pub most : new ≤ old + windows_in e

-- the same of some expressions
pub record GroupedAllAtMost (es : Trees) (old new : ℕ) : Type 0 where
  pub rises : old ≤ new
  pub most : new ≤ old + all_windows_in es
