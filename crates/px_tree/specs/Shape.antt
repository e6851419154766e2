-- What an expression's tree tells without a frame: its shape, its name, and what stands in it.
use Rattle.std.specs.Prelude.{ℕ, Bool, true, false, ◌&&◌, ◌||◌, List, [], codes}
use Rattle.px_tree.specs.Tree.{Tree, Trees, Order, called, Literal, single, range, series, no_trees, one_tree, no_order, ordered, column, literal, alias, binary, ternary, cast, function, filter, slice, gather, sort, sort_by, agg, len, window}
use Rattle.px_value.specs.declared.method.GroupByMethod.{GroupByMethod}
use Rattle.px_value.specs.declared.method.GroupByMethod.TheVariants.{Implode}
use Rattle.px_tree.specs.declared.function.FunctionExpr.{FunctionExpr}
use Rattle.px_tree.specs.declared.function.FunctionExpr.TheVariants.{IsNull, IsNotNull, Not, IsBetween, IsIn, NullCount}

-- a literal of one value
abbrev pub is_single : Literal → Bool
is_single (single k s) = true
is_single _ = false

-- the reduction to a list of all rows
abbrev pub is_implode : GroupByMethod → Bool
is_implode Implode = true
is_implode _ = false

-- whether a function has one value, by whether its first input has one, and each of them
abbrev pub is_unit_call : FunctionExpr → Bool → Bool → Bool
is_unit_call IsNull first all = first
is_unit_call IsNotNull first all = first
is_unit_call Not first all = first
is_unit_call (IsBetween closed) first all = all
is_unit_call IsIn first all = first
is_unit_call NullCount first all = true
is_unit_call _ first all = false

abbrev mutual
  -- whether an expression has one value, a unit, whatever the frame; else it has a list of rows
  pub is_unit : Tree → Bool
  is_unit (column n) = false
  is_unit (literal v) = is_single v
  is_unit (alias e n) = is_unit e
  is_unit (binary l op r) = is_unit l && is_unit r
  is_unit (ternary p a b) = is_unit p && (is_unit a && is_unit b)
  is_unit (cast e k options) = is_unit e
  is_unit (function es f) = is_unit_call (called f) (is_unit_first es) (are_units es)
  is_unit (filter e by) = false
  is_unit (slice e offset length) = false
  is_unit (gather e idx one) = one
  is_unit (sort e options) = false
  is_unit (sort_by e by options) = false
  is_unit (agg Implode e) = false
  is_unit (agg m e) = true
  is_unit len = true
  is_unit (window f keys order mapping) = false

  -- whether the first of some expressions has one value
  pub is_unit_first : Trees → Bool
  is_unit_first no_trees = false
  is_unit_first (one_tree t ts) = is_unit t

  -- whether each of some expressions has one value
  pub are_units : Trees → Bool
  are_units no_trees = true
  are_units (one_tree t ts) = is_unit t && are_units ts

abbrev mutual
  -- what the nodes of an expression come to together: what each has of its own, joined from left to right
  pub fold : {A : Type 0} → A → (A → A → A) → (Tree → A) → Tree → A
  fold none join own (column n) = own (column n)
  fold none join own (literal v) = own (literal v)
  fold none join own (alias e n) = join (own (alias e n)) (fold none join own e)
  fold none join own (binary l op r) = join (own (binary l op r)) (join (fold none join own l) (fold none join own r))
  fold none join own (ternary p a b) = join (own (ternary p a b)) (join (fold none join own p) (join (fold none join own a) (fold none join own b)))
  fold none join own (cast e k options) = join (own (cast e k options)) (fold none join own e)
  fold none join own (function es f) = join (own (function es f)) (fold_all none join own es)
  fold none join own (filter e by) = join (own (filter e by)) (join (fold none join own e) (fold none join own by))
  fold none join own (slice e offset length) = join (own (slice e offset length)) (join (fold none join own e) (join (fold none join own offset) (fold none join own length)))
  fold none join own (gather e idx one) = join (own (gather e idx one)) (join (fold none join own e) (fold none join own idx))
  fold none join own (sort e options) = join (own (sort e options)) (fold none join own e)
  fold none join own (sort_by e by options) = join (own (sort_by e by options)) (join (fold none join own e) (fold_all none join own by))
  fold none join own (agg m e) = join (own (agg m e)) (fold none join own e)
  fold none join own len = own len
  fold none join own (window f keys order mapping) = join (own (window f keys order mapping)) (join (fold none join own f) (join (fold_all none join own keys) (fold_order none join own order)))

  -- the same of some expressions
  pub fold_all : {A : Type 0} → A → (A → A → A) → (Tree → A) → Trees → A
  fold_all none join own no_trees = none
  fold_all none join own (one_tree t ts) = join (fold none join own t) (fold_all none join own ts)

  -- the same of what an order is by
  pub fold_order : {A : Type 0} → A → (A → A → A) → (Tree → A) → Order → A
  fold_order none join own no_order = none
  fold_order none join own (ordered t options) = fold none join own t

-- a node that is no leaf, or a literal
abbrev pub is_literal_leaf : Tree → Bool
is_literal_leaf (column n) = false
is_literal_leaf len = false
is_literal_leaf _ = true

-- whether each leaf of an expression is a literal; the length is a leaf and no literal
abbrev pub is_literal_tree : Tree → Bool
is_literal_tree t = fold true (λ a b. a && b) is_literal_leaf t

-- whether each leaf of some expressions is a literal
abbrev pub are_literal_trees : Trees → Bool
are_literal_trees ts = fold_all true (λ a b. a && b) is_literal_leaf ts

-- whether each leaf of what an order is by is a literal, as it is without an order
abbrev pub is_literal_order : Order → Bool
is_literal_order o = fold_order true (λ a b. a && b) is_literal_leaf o

-- an Implode
abbrev pub is_implode_node : Tree → Bool
is_implode_node (agg m e) = is_implode m
is_implode_node _ = false

-- whether an Implode stands in an expression
abbrev pub has_implode : Tree → Bool
has_implode t = fold false (λ a b. a || b) is_implode_node t

-- whether an Implode stands in one of some expressions
abbrev pub have_implode : Trees → Bool
have_implode ts = fold_all false (λ a b. a || b) is_implode_node ts

-- whether an Implode stands in what an order is by
abbrev pub has_implode_order : Order → Bool
has_implode_order o = fold_order false (λ a b. a || b) is_implode_node o

-- a window
abbrev pub is_window : Tree → Bool
is_window (window f keys order mapping) = true
is_window _ = false

-- whether a window stands in an expression
abbrev pub has_window : Tree → Bool
has_window t = fold false (λ a b. a || b) is_window t

-- whether a window stands in one of some expressions
abbrev pub have_window : Trees → Bool
have_window ts = fold_all false (λ a b. a || b) is_window ts

-- a column and a literal column have their own names, a single value and a range are named literal
abbrev pub literal_name : Literal → List ℕ
literal_name (single k s) = codes "literal"
literal_name (range low high k) = codes "literal"
literal_name (series s) = s.name

abbrev mutual
  -- the name of an expression's result: a column's own, an alias, the length's, else that of the left operand, the truthy
  -- one, a window's function, or the first input
  pub name_of : Tree → List ℕ
  name_of (column n) = n
  name_of (literal v) = literal_name v
  name_of (alias e n) = n
  name_of (binary l op r) = name_of l
  name_of (ternary p a b) = name_of a
  name_of (cast e k options) = name_of e
  name_of (function es f) = first_name es
  name_of (filter e by) = name_of e
  name_of (slice e offset length) = name_of e
  name_of (gather e idx one) = name_of e
  name_of (sort e options) = name_of e
  name_of (sort_by e by options) = name_of e
  name_of (agg m e) = name_of e
  name_of len = codes "len"
  name_of (window f keys order mapping) = name_of f

  -- the name of the first of some expressions, empty where there is none
  pub first_name : Trees → List ℕ
  first_name no_trees = []
  first_name (one_tree t ts) = name_of t
