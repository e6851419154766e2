-- What nodes have without a frame.
use Rattle.std.specs.Prelude.{◌≡◌, ◌^◌, ◌≤◌, ℕ, suc, Bool, true, false, ◌&&◌, ◌==◌, List, [], ◌∷◌, Option, Some, None, Result, Ok, Err, map}
use Rattle.std.specs.Option.{option_map_or}
use Rattle.px_column.specs.Prelude.{Series}
use Rattle.px_value.specs.declared.error.PxError.{PxError}
use Rattle.px_frame.specs.Cell.{count_of}
use Rattle.px_frame.specs.External.{Frame, alone}
use Rattle.px_frame.specs.Spread.{NamedCell, column_of_cell}
use Rattle.px_tree.specs.Size.{size_on, sizes_on}
use Rattle.px_tree.specs.Tree.{Tree, Trees, no_trees, one_tree, Literal, range, literal, alias, cast, function}
use Rattle.px_tree.specs.Typing.{refusals_of, all_refusals_of}
use Rattle.px_tree.specs.Value.{value_on, faults_on, all_faults_on}
use Rattle.px_tree.specs.declared.context.Context.TheVariants.{Default}
use Rattle.px_answers.specs.Parts.{plan_trees}
use Rattle.px_answers.specs.Planned.{Planned}
use Rattle.px_answers.specs.Value.{AreCellsOf, IsCellOf, IsValue}

-- the frame without columns
abbrev pub no_frame : Frame
no_frame = alone []

-- a literal whose rows are there already
abbrev pub is_kept : Literal → Bool
is_kept (range low high k) = false
is_kept _ = true

-- an expression has exactly one value without a frame
abbrev pub has_one_row : Tree → Bool
has_one_row e = option_map_or (λ c. count_of c == 1) (value_on e no_frame) false

abbrev mutual
  -- an expression that may be evaluated without a frame: a literal whose rows are there already, or an alias, a cast or a
  -- function over such expressions, at most so many of these one above another. What is cast, or a function's input, has
  -- one value
  pub is_inline : ℕ → Tree → Bool
  is_inline n (literal v) = is_kept v
  is_inline (suc n) (alias e m) = is_inline n e
  is_inline (suc n) (cast e to options) = is_inline n e && has_one_row e
  is_inline (suc n) (function es f) = are_inline n es
  is_inline _ _ = false

  -- the same of a function's inputs
  pub are_inline : ℕ → Trees → Bool
  are_inline n no_trees = true
  are_inline n (one_tree t ts) = (is_inline n t && has_one_row t) && are_inline n ts

-- an expression as a node without column nodes
abbrev pub bare : Tree → Planned
bare e = record { tree = e; columns = [] }

-- there is nothing for an expression: it is refused where there are no columns, it has a fault there, or it, or an expression
-- in it, has 2^32 values or more
abbrev pub HasNone : Tree → Type 0
HasNone e = refusals_of e [] Default ≡ [] → faults_on e no_frame ≡ [] → 2 ^ 32 ≤ size_on e (no_frame ∷ [])

-- the same of one of some expressions
abbrev pub HaveNone : Trees → Type 0
HaveNone es = all_refusals_of es [] Default ≡ [] → all_faults_on es no_frame ≡ [] → 2 ^ 32 ≤ sizes_on es (no_frame ∷ [])

-- what a node has without a frame: the value of its expression as a column, which may be evaluated so; nothing exactly where
-- it may not, or where there is none
abbrev pub IsInline : ℕ → Tree → Option Series → Type 0
IsInline n e (Some s) = (is_inline n e ≡ true) × IsValue (bare e) no_frame s
IsInline n e None = is_inline n e ≡ true → HasNone e

-- the same as one cell, of one value
abbrev pub IsInlineCell : ℕ → Tree → Option NamedCell → Type 0
IsInlineCell n e (Some c) = ((is_inline n e && has_one_row e) ≡ true) × IsCellOf (bare e) no_frame c
IsInlineCell n e None = (is_inline n e && has_one_row e) ≡ true → HasNone e

-- and of some nodes, all of which have one, or nothing
abbrev pub AreInlineCells : ℕ → List Planned → Option (List NamedCell) → Type 0
AreInlineCells n ps (Some cs) = (are_inline n (plan_trees ps) ≡ true) × AreCellsOf (map (λ p. bare p.tree) ps) no_frame cs
AreInlineCells n ps None = are_inline n (plan_trees ps) ≡ true → HaveNone (plan_trees ps)

-- a cell as a column, nothing in place of a refusal
abbrev pub column_or_none : Result NamedCell PxError → Option Series
column_or_none (Ok c) = Some (column_of_cell c)
column_or_none (Err e) = None
