-- What a node tells of its expression.
use Rattle.std.specs.Prelude.{◌≡◌, ℕ, Bool, true, false, List, [], ◌∷◌, ◌++◌, Option, Some, None, Result, Ok, fold, take}
use Rattle.indexmap.specs.IndexSet.{insert_key}
use Rattle.px_column.specs.Prelude.{Kind}
use Rattle.px_column.specs.Result.{◌>>=◌}
use Rattle.px_value.specs.declared.error.PxError.{PxError}
use Rattle.px_frame.specs.Frame.{name_eq}
use Rattle.px_frame.specs.Schema.{FieldKind}
use Rattle.px_tree.specs.Shape.{name_of}
use Rattle.px_tree.specs.Tree.{Tree, called, Trees, Order, no_trees, one_tree, no_order, ordered, column, literal, alias, binary, ternary, cast, function, filter, slice, gather, sort, sort_by, agg, len, window}
use Rattle.px_tree.specs.Typing.{Scope, type_of}
use Rattle.px_tree.specs.declared.context.Context.TheVariants.{Default}
use Rattle.px_tree.specs.declared.function.FunctionExpr.{FunctionExpr}
use Rattle.px_tree.specs.declared.function.FunctionExpr.TheVariants.{IsNull, IsNotNull, Not}

-- the expression that a node gives: none for a reduction, and for an alias the one that it stands over
abbrev pub expression_of : Tree → Option Tree
expression_of (agg m e) = None
expression_of (alias e n) = Some e
expression_of e = Some e

-- a name with a type
abbrev pub field_of : List ℕ → Kind → Result FieldKind PxError
field_of n k = Ok (record { name = n; kind = k })

-- the name and type of an expression over a schema, or its first refusal
abbrev pub field_on : Tree → Scope → Result FieldKind PxError
field_on e scope = type_of e scope Default >>= field_of (name_of e)

-- a literal, also under aliases
abbrev pub is_literal_node : Tree → Bool
is_literal_node (literal v) = true
is_literal_node (alias e n) = is_literal_node e
is_literal_node _ = false

-- a function of one input that can be evaluated on chunks of rows
abbrev pub is_partitioned_function : FunctionExpr → Bool
is_partitioned_function IsNull = true
is_partitioned_function IsNotNull = true
is_partitioned_function Not = true
is_partitioned_function _ = false

-- an expression whose kind can be evaluated on chunks of rows, whose partial results are merged
abbrev pub is_partitioned : Tree → Bool
is_partitioned (agg m e) = true
is_partitioned (alias e n) = true
is_partitioned (binary l op r) = true
is_partitioned (cast e k options) = true
is_partitioned (column n) = true
is_partitioned len = true
is_partitioned (literal v) = true
is_partitioned (ternary p a b) = true
is_partitioned (function (one_tree e no_trees) f) = is_partitioned_function (called f)
is_partitioned _ = false

-- the names of the columns that an expression reads, in the order of visit, and the names that its aliases give; a window
-- visits its keys, then its order, then its function
abbrev mutual
  pub live_names : Tree → List (List ℕ)
  live_names (column n) = n ∷ []
  live_names (literal v) = []
  live_names (alias e n) = live_names e ++ n ∷ []
  live_names (binary l op r) = live_names l ++ live_names r
  live_names (ternary p a b) = live_names p ++ live_names a ++ live_names b
  live_names (cast e k options) = live_names e
  live_names (function es f) = all_live_names es
  live_names (filter e by) = live_names e ++ live_names by
  live_names (slice e offset length) = live_names e ++ live_names offset ++ live_names length
  live_names (gather e idx one) = live_names e ++ live_names idx
  live_names (sort e options) = live_names e
  live_names (sort_by e by options) = live_names e ++ all_live_names by
  live_names (agg m e) = live_names e
  live_names len = []
  live_names (window f keys order mapping) = all_live_names keys ++ order_live_names order ++ live_names f

  pub all_live_names : Trees → List (List ℕ)
  all_live_names no_trees = []
  all_live_names (one_tree t ts) = live_names t ++ all_live_names ts

  pub order_live_names : Order → List (List ℕ)
  order_live_names no_order = []
  order_live_names (ordered t options) = live_names t

-- some names added to a set in their order, each once
abbrev pub added : List (List ℕ) → List (List ℕ) → List (List ℕ)
added set names = fold (insert_key name_eq) set names

-- a front of some names was added
abbrev pub AddsFront : List (List ℕ) → List (List ℕ) → List (List ℕ) → Type 0
AddsFront set names now = (n : ℕ) × (now ≡ added set (take n names))
