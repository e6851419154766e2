-- How deep an expression is, and the limit that a text sets.
use Rattle.std.specs.Prelude.{ℕ, zero, suc, ◌+◌, ◌^◌, Bool, false, max, nat_le, nat_lt, List, Option, Some, None, Result, Ok, Err, if◌then◌else◌}
use Rattle.std.specs.Str.Parse.{without_leading_plus}
use Rattle.px_column.specs.Cast.{natural_of}
use Rattle.px_value.specs.declared.error.PxError.{PxError}
use Rattle.px_value.specs.declared.error.PxError.TheVariants.{ComputeError}
use Rattle.px_value.specs.declared.error.ComputeWhy.TheVariants.{DepthText}
use Rattle.px_tree.specs.Tree.{Tree, Trees, Order, no_trees, one_tree, no_order, ordered, column, literal, alias, binary, ternary, cast, function, filter, slice, gather, sort, sort_by, agg, len, window}

-- the greatest number of nodes on a path from an expression to one of its leaves
abbrev mutual
  pub depth_of : Tree → ℕ
  depth_of (column n) = 1
  depth_of (literal v) = 1
  depth_of (alias e n) = depth_of e + 1
  depth_of (binary l op r) = max (depth_of l) (depth_of r) + 1
  depth_of (ternary p a b) = max (depth_of p) (max (depth_of a) (depth_of b)) + 1
  depth_of (cast e k options) = depth_of e + 1
  depth_of (function es f) = all_depth_of es + 1
  depth_of (filter e by) = max (depth_of e) (depth_of by) + 1
  depth_of (slice e offset length) = max (depth_of e) (max (depth_of offset) (depth_of length)) + 1
  depth_of (gather e idx one) = max (depth_of e) (depth_of idx) + 1
  depth_of (sort e options) = depth_of e + 1
  depth_of (sort_by e by options) = max (depth_of e) (all_depth_of by) + 1
  depth_of (agg m e) = depth_of e + 1
  depth_of len = 1
  depth_of (window f keys order mapping) = max (depth_of f) (max (all_depth_of keys) (order_depth_of order)) + 1

  -- the greatest of some expressions' depths
  pub all_depth_of : Trees → ℕ
  all_depth_of no_trees = 0
  all_depth_of (one_tree t ts) = max (depth_of t) (all_depth_of ts)

  -- the depth of what rows are ordered by
  pub order_depth_of : Order → ℕ
  order_depth_of no_order = 0
  order_depth_of (ordered t options) = depth_of t

-- whether an expression is as deep as a limit; 0 is no limit
abbrev pub is_too_deep : ℕ → Tree → Bool
is_too_deep zero e = false
is_too_deep (suc limit) e = nat_le (suc limit) (depth_of e)

-- the limit that a number sets, if there is one: none, which is 0, above 65535; a number of 2^64 or more is refused
abbrev pub numbered_depth_limit : Option ℕ → Result ℕ PxError
numbered_depth_limit None = Err (ComputeError DepthText)
numbered_depth_limit (Some n) = if nat_lt n (2 ^ 64) then Ok (if nat_lt n (2 ^ 16) then n else 0) else Err (ComputeError DepthText)

-- the limit that a text sets by a number in decimal digits, where a plus may stand first
abbrev pub written_depth_limit : List ℕ → Result ℕ PxError
written_depth_limit text = numbered_depth_limit (natural_of (without_leading_plus text))

-- the limit that a text sets, and 512 without a text
abbrev pub depth_limit_of : Option (List ℕ) → Result ℕ PxError
depth_limit_of None = Ok 512
depth_limit_of (Some text) = written_depth_limit text
