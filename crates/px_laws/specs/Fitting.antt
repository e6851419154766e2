-- Columns and literals whose places fit their types.
use Rattle.std.specs.Prelude.{Bool, true, ◌&&◌}
use Rattle.std.specs.List.{list_all}
use Rattle.px_column.specs.Prelude.{slot_fits, slots_fit, Series}
use Rattle.px_frame.specs.External.{Frame}
use Rattle.px_tree.specs.Tree.{Tree, Trees, Order, Literal, single, range, series, no_trees, one_tree, no_order, ordered, column, literal, alias, binary, ternary, cast, function, filter, slice, gather, sort, sort_by, agg, len, window}

-- each place fits the column's type
abbrev pub is_fitting : Series → Bool
is_fitting s = slots_fit s.kind s.slots

-- so in each column of a frame and beside it
abbrev pub has_fitting_columns : Frame → Bool
has_fitting_columns frame = list_all is_fitting frame.columns && list_all is_fitting frame.external

-- a range is tested where it is evaluated
abbrev pub is_fitting_literal : Literal → Bool
is_fitting_literal (single k s) = slot_fits k s
is_fitting_literal (range low high k) = true
is_fitting_literal (series s) = is_fitting s

abbrev mutual
  -- each literal of an expression fits its type
  pub has_fitting_literals : Tree → Bool
  has_fitting_literals (column n) = true
  has_fitting_literals (literal v) = is_fitting_literal v
  has_fitting_literals (alias e n) = has_fitting_literals e
  has_fitting_literals (binary l op r) = has_fitting_literals l && has_fitting_literals r
  has_fitting_literals (ternary p a b) = has_fitting_literals p && (has_fitting_literals a && has_fitting_literals b)
  has_fitting_literals (cast e k options) = has_fitting_literals e
  has_fitting_literals (function es f) = have_fitting_literals es
  has_fitting_literals (filter e by) = has_fitting_literals e && has_fitting_literals by
  has_fitting_literals (slice e offset length) = has_fitting_literals e && (has_fitting_literals offset && has_fitting_literals length)
  has_fitting_literals (gather e idx one) = has_fitting_literals e && has_fitting_literals idx
  has_fitting_literals (sort e options) = has_fitting_literals e
  has_fitting_literals (sort_by e by options) = has_fitting_literals e && have_fitting_literals by
  has_fitting_literals (agg m e) = has_fitting_literals e
  has_fitting_literals len = true
  has_fitting_literals (window f keys order mapping) = has_fitting_literals f && (have_fitting_literals keys && has_fitting_order order)

  -- each literal of some expressions fits its type
  pub have_fitting_literals : Trees → Bool
  have_fitting_literals no_trees = true
  have_fitting_literals (one_tree t ts) = has_fitting_literals t && have_fitting_literals ts

  -- each literal of what an order is by fits its type
  pub has_fitting_order : Order → Bool
  has_fitting_order no_order = true
  has_fitting_order (ordered t options) = has_fitting_literals t
