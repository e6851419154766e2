-- How often kernels run, and rows are grouped, while an expression is evaluated.
use Rattle.std.specs.Prelude.{ℕ, ◌+◌, ◌*◌, Bool, true, false, ◌&&◌, ◌||◌, List, [], ◌∷◌, ◌++◌, Option, Some, None, Result, Ok, length, if◌then◌else◌}
use Rattle.px_column.specs.Prelude.{Series}
use Rattle.px_value.specs.declared.cast_options.CastOptions.TheVariants.{Strict}
use Rattle.px_value.specs.declared.error.PxError.{PxError}
use Rattle.px_value.specs.declared.sort_options.SortOptions.{SortOptions}
use Rattle.px_frame.specs.External.{Frame, height}
use Rattle.px_frame.specs.Spread.{NamedCell, spread_all}
use Rattle.px_tree.specs.Nodes.{nodes_of}
use Rattle.px_tree.specs.Partition.{is_row_function}
use Rattle.px_tree.specs.Shape.{is_single}
use Rattle.px_tree.specs.Tree.{Tree, called, Trees, Order, no_trees, one_tree, no_order, ordered, column, literal, alias, binary, ternary, cast, function, filter, slice, gather, sort, sort_by, agg, window}
use Rattle.px_tree.specs.Value.{named_on, order_on, parts_on}
use Rattle.px_tree.specs.Window.{OrderCell, order_column}
use Rattle.px_tree.specs.declared.window.WindowMapping.{WindowMapping}

abbrev mutual
  -- evaluated on flat columns by one kernel a node: columns, single literals, aliases, operators, ternaries, functions of
  -- one row, and casts that are never refused
  pub is_flat_rows : Tree → Bool
  is_flat_rows (column n) = true
  is_flat_rows (literal v) = is_single v
  is_flat_rows (alias e n) = is_flat_rows e
  is_flat_rows (binary l op r) = is_flat_rows l && is_flat_rows r
  is_flat_rows (ternary p a b) = is_flat_rows p && (is_flat_rows a && is_flat_rows b)
  is_flat_rows (cast e k Strict) = false
  is_flat_rows (cast e k _) = is_flat_rows e
  is_flat_rows (function es f) = is_row_function (called f) && are_flat_rows es
  is_flat_rows _ = false

  -- each of some expressions is such a one
  pub are_flat_rows : Trees → Bool
  are_flat_rows no_trees = true
  are_flat_rows (one_tree t ts) = is_flat_rows t && are_flat_rows ts

-- one reduction of such an expression, under any aliases
abbrev pub is_flat_reduction : Tree → Bool
is_flat_reduction (alias e n) = is_flat_reduction e
is_flat_reduction (agg m e) = is_flat_rows e
is_flat_reduction _ = false

-- such an expression, or one reduction of it
abbrev pub is_flat : Tree → Bool
is_flat e = is_flat_rows e || is_flat_reduction e

abbrev mutual
  -- the nodes of a flat expression that run a kernel
  pub ticks_of : Tree → ℕ
  ticks_of (alias e n) = ticks_of e
  ticks_of (binary l op r) = ticks_of l + ticks_of r + 1
  ticks_of (ternary p a b) = ticks_of p + ticks_of a + ticks_of b + 1
  ticks_of (cast e k options) = ticks_of e + 1
  ticks_of (function es f) = all_ticks_of es + 1
  ticks_of (agg m e) = ticks_of e + 1
  ticks_of _ = 0

  -- the nodes of some flat expressions that run a kernel
  pub all_ticks_of : Trees → ℕ
  all_ticks_of no_trees = 0
  all_ticks_of (one_tree t ts) = ticks_of t + all_ticks_of ts

-- how often kernels run at most on n groups
abbrev pub group_cost : Tree → ℕ → ℕ
group_cost e n = if is_flat e then nodes_of e else nodes_of e * (n + 1)

-- each of some expressions is flat
abbrev pub are_flat : Trees → Bool
are_flat no_trees = true
are_flat (one_tree t ts) = is_flat t && are_flat ts

-- an order is by a flat expression, or there is none
abbrev pub is_flat_order : Order → Bool
is_flat_order no_order = true
is_flat_order (ordered t options) = is_flat t

-- sorting runs a kernel for each part
abbrev pub sorting_cost : Trees → Order → Frame → ℕ
sorting_cost keys no_order frame = 0
sorting_cost keys (ordered t options) frame = length (parts_on keys (ordered t options) frame)

-- the cost of a window of flat expressions, under any aliases, above which stand n nodes
abbrev pub window_cost : ℕ → Tree → Frame → Option ℕ
window_cost n (alias e m) frame = window_cost (n + 1) e frame
window_cost n (window f keys order mapping) frame =
    if is_flat f && (are_flat keys && is_flat_order order)
    then Some (n + nodes_of (window f keys order mapping) + sorting_cost keys order frame)
    else None
window_cost n _ frame = None

-- how often kernels run at most on a frame, where there is such a bound
abbrev pub cost_on : Tree → Frame → Option ℕ
cost_on e frame = if is_flat e then Some (nodes_of e) else window_cost 0 e frame

-- what a window groups by: its keys and its order, as columns of the frame's height
pub record WindowKey : Type 0 where
  pub keys : List Series
  pub order : Option (Series × SortOptions)

-- a window's key and how its values are placed, none where its columns or its order are refused
abbrev pub key_where : Result (List Series) PxError → Result (Option (Series × SortOptions)) PxError → WindowMapping → List (WindowKey × WindowMapping)
key_where (Ok by) (Ok o) mapping = (record { keys = by; order = o }, mapping) ∷ []
key_where _ _ mapping = []

-- the same of a window whose keys and order have values of the frame's height
abbrev pub key_with : Option (List NamedCell) → Option OrderCell → ℕ → WindowMapping → List (WindowKey × WindowMapping)
key_with (Some keys) (Some order) n mapping = key_where (spread_all n keys) (order_column n order) mapping
key_with _ _ n mapping = []

abbrev mutual
  -- the keys of the windows in an expression, in the order in which they are evaluated, each beside how the window's values are
  -- placed. A window's function holds none, since no window stands on groups
  pub keys_on : Tree → Frame → List (WindowKey × WindowMapping)
  keys_on (alias e n) frame = keys_on e frame
  keys_on (binary l op r) frame = keys_on l frame ++ keys_on r frame
  keys_on (ternary p a b) frame = keys_on p frame ++ keys_on a frame ++ keys_on b frame
  keys_on (cast e k options) frame = keys_on e frame
  keys_on (function es f) frame = all_keys_on es frame
  keys_on (filter e by) frame = keys_on e frame ++ keys_on by frame
  keys_on (slice e offset length) frame = keys_on e frame ++ keys_on offset frame ++ keys_on length frame
  keys_on (gather e idx one) frame = keys_on e frame ++ keys_on idx frame
  keys_on (sort e options) frame = keys_on e frame
  keys_on (sort_by e by options) frame = all_keys_on by frame ++ keys_on e frame
  keys_on (agg m e) frame = keys_on e frame
  keys_on (window f keys order mapping) frame =
      all_keys_on keys frame ++ order_keys_on order frame ++ key_with (named_on keys frame) (order_on order frame) (height frame) mapping
  keys_on _ frame = []

  -- the keys of the windows in some expressions
  pub all_keys_on : Trees → Frame → List (WindowKey × WindowMapping)
  all_keys_on no_trees frame = []
  all_keys_on (one_tree t ts) frame = keys_on t frame ++ all_keys_on ts frame

  -- the keys of the windows in what an order is by
  pub order_keys_on : Order → Frame → List (WindowKey × WindowMapping)
  order_keys_on no_order frame = []
  order_keys_on (ordered t options) frame = keys_on t frame

abbrev mutual
  -- how often rows are grouped for the windows of an expression: once for each of them. A window's function holds none, since no
  -- window stands on groups
  pub windows_in : Tree → ℕ
  windows_in (alias e n) = windows_in e
  windows_in (binary l op r) = windows_in l + windows_in r
  windows_in (ternary p a b) = windows_in p + windows_in a + windows_in b
  windows_in (cast e k options) = windows_in e
  windows_in (function es f) = all_windows_in es
  windows_in (filter e by) = windows_in e + windows_in by
  windows_in (slice e offset length) = windows_in e + windows_in offset + windows_in length
  windows_in (gather e idx one) = windows_in e + windows_in idx
  windows_in (sort e options) = windows_in e
  windows_in (sort_by e by options) = windows_in e + all_windows_in by
  windows_in (agg m e) = windows_in e
  windows_in (window f keys order mapping) = all_windows_in keys + order_windows_in order + 1
  windows_in _ = 0

  -- the same of some expressions together
  pub all_windows_in : Trees → ℕ
  all_windows_in no_trees = 0
  all_windows_in (one_tree t ts) = windows_in t + all_windows_in ts

  -- the same of what an order is by
  pub order_windows_in : Order → ℕ
  order_windows_in no_order = 0
  order_windows_in (ordered t options) = windows_in t
