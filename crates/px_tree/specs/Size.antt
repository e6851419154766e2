-- How many values an expression and the expressions in it have, over several frames together.
use Rattle.std.specs.Prelude.{ℕ, List, max, sum, map}
use Rattle.std.specs.List.{flat_map}
use Rattle.std.specs.Option.{option_map_or}
use Rattle.px_frame.specs.Cell.{count_of}
use Rattle.px_frame.specs.External.{Frame}
use Rattle.px_tree.specs.Tree.{Tree, Trees, Order, no_trees, one_tree, no_order, ordered, column, literal, alias, binary, ternary, cast, function, filter, slice, gather, sort, sort_by, agg, len, window}
use Rattle.px_tree.specs.Value.{value_on, window_frames}

-- the number of values, none where there is no value
abbrev pub count_on : Tree → Frame → ℕ
count_on e frame = option_map_or count_of (value_on e frame) 0

-- the number of values over these frames
abbrev pub counts_on : Tree → List Frame → ℕ
counts_on e frames = sum (map (count_on e) frames)

abbrev mutual
  -- the greatest such number of an expression and those in it; a window's function is measured over the parts
  pub size_on : Tree → List Frame → ℕ
  size_on (column n) frames = counts_on (column n) frames
  size_on (literal v) frames = counts_on (literal v) frames
  size_on (alias e n) frames = max (counts_on (alias e n) frames) (size_on e frames)
  size_on (binary l op r) frames = max (counts_on (binary l op r) frames) (max (size_on l frames) (size_on r frames))
  size_on (ternary p a b) frames = max (counts_on (ternary p a b) frames) (max (size_on p frames) (max (size_on a frames) (size_on b frames)))
  size_on (cast e k options) frames = max (counts_on (cast e k options) frames) (size_on e frames)
  size_on (function es f) frames = max (counts_on (function es f) frames) (sizes_on es frames)
  size_on (filter e by) frames = max (counts_on (filter e by) frames) (max (size_on e frames) (size_on by frames))
  size_on (slice e offset length) frames = max (counts_on (slice e offset length) frames) (max (size_on e frames) (max (size_on offset frames) (size_on length frames)))
  size_on (gather e idx one) frames = max (counts_on (gather e idx one) frames) (max (size_on e frames) (size_on idx frames))
  size_on (sort e options) frames = max (counts_on (sort e options) frames) (size_on e frames)
  size_on (sort_by e by options) frames = max (counts_on (sort_by e by options) frames) (max (size_on e frames) (sizes_on by frames))
  size_on (agg m e) frames = max (counts_on (agg m e) frames) (size_on e frames)
  size_on len frames = counts_on len frames
  size_on (window f keys order mapping) frames =
      max (counts_on (window f keys order mapping) frames)
      (max (size_on f (flat_map (window_frames keys order) frames)) (max (sizes_on keys frames) (order_size_on order frames)))

  -- the greatest such number of some expressions
  pub sizes_on : Trees → List Frame → ℕ
  sizes_on no_trees frames = 0
  sizes_on (one_tree t ts) frames = max (size_on t frames) (sizes_on ts frames)

  -- the greatest such number of what an order is by, 0 without an order
  pub order_size_on : Order → List Frame → ℕ
  order_size_on no_order frames = 0
  order_size_on (ordered t options) frames = size_on t frames
