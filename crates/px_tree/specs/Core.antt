-- Core expressions: columns, single literals, aliases, comparisons, sums, differences and products of integers, And and
-- Or of truths, ternaries, filters, slices by literals, lengths, reductions to one value, and windows of these.
use Rattle.std.specs.Prelude.{Bool, true, false, ◌&&◌, not, Option, Some, None}
use Rattle.px_column.specs.Prelude.{Kind}
use Rattle.px_column.specs.Operator.{is_comparison, is_integer_kind, is_boolean_kind}
use Rattle.px_value.specs.declared.operator.Operator.{Operator}
use Rattle.px_value.specs.declared.operator.Operator.TheVariants.{Plus, Minus, Multiply, And, Or}
use Rattle.px_tree.specs.Shape.{is_unit, is_single, is_implode}
use Rattle.px_tree.specs.Tree.{Tree, Trees, Order, no_trees, one_tree, no_order, ordered, column, literal, alias, binary, ternary, filter, slice, agg, len, window}
use Rattle.px_tree.specs.Typing.{Scope, kind_in}

-- there is a type, and it passes the test
abbrev pub has_kind : (Kind → Bool) → Option Kind → Bool
has_kind test None = false
has_kind test (Some k) = test k

-- the operators of core expressions, on operands of this type
abbrev pub is_core_operator : Operator → Option Kind → Bool
is_core_operator Plus k = has_kind is_integer_kind k
is_core_operator Minus k = has_kind is_integer_kind k
is_core_operator Multiply k = has_kind is_integer_kind k
is_core_operator And k = has_kind is_boolean_kind k
is_core_operator Or k = has_kind is_boolean_kind k
is_core_operator op k = is_comparison op

-- a literal of one value
abbrev pub is_single_literal : Tree → Bool
is_single_literal (literal v) = is_single v
is_single_literal _ = false

abbrev mutual
  -- a core expression: the input of a reduction, a filter or a slice is a list, and so is a filter's mask
  pub is_core : Tree → Scope → Bool
  is_core (column n) scope = true
  is_core (literal v) scope = is_single v
  is_core (alias e n) scope = is_core e scope
  is_core (binary l op r) scope = is_core_operator op (kind_in l scope) && (is_core l scope && is_core r scope)
  is_core (ternary p a b) scope = is_core p scope && (is_core a scope && is_core b scope)
  is_core (filter e by) scope = not (is_unit e) && (not (is_unit by) && (is_core e scope && is_core by scope))
  is_core (slice e offset length) scope = not (is_unit e) && (is_core e scope && (is_single_literal offset && is_single_literal length))
  is_core (agg m e) scope = not (is_implode m) && (not (is_unit e) && is_core e scope)
  is_core len scope = true
  is_core (window f keys order mapping) scope = is_core f scope && (are_core keys scope && is_core_order order scope)
  is_core _ scope = false

  -- each of some expressions is a core expression
  pub are_core : Trees → Scope → Bool
  are_core no_trees scope = true
  are_core (one_tree t ts) scope = is_core t scope && are_core ts scope

  -- an order is by a core expression, or there is none
  pub is_core_order : Order → Scope → Bool
  is_core_order no_order scope = true
  is_core_order (ordered t options) scope = is_core t scope
