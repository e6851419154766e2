-- The nodes of an expression's tree: how many there are, their trees, and the names of its columns.
use Rattle.std.specs.Prelude.{ℕ, ◌+◌, List, [], ◌∷◌, ◌++◌}
use Rattle.px_tree.specs.Tree.{Tree, Trees, Order, no_trees, one_tree, no_order, ordered, column, literal, alias, binary, ternary, cast, function, filter, slice, gather, sort, sort_by, agg, len, window}

abbrev mutual
  -- how many nodes a tree has
  pub nodes_of : Tree → ℕ
  nodes_of (column n) = 1
  nodes_of (literal v) = 1
  nodes_of (alias e n) = nodes_of e + 1
  nodes_of (binary l op r) = nodes_of l + nodes_of r + 1
  nodes_of (ternary p a b) = nodes_of p + nodes_of a + nodes_of b + 1
  nodes_of (cast e k options) = nodes_of e + 1
  nodes_of (function es f) = all_nodes_of es + 1
  nodes_of (filter e by) = nodes_of e + nodes_of by + 1
  nodes_of (slice e offset length) = nodes_of e + nodes_of offset + nodes_of length + 1
  nodes_of (gather e idx one) = nodes_of e + nodes_of idx + 1
  nodes_of (sort e options) = nodes_of e + 1
  nodes_of (sort_by e by options) = nodes_of e + all_nodes_of by + 1
  nodes_of (agg m e) = nodes_of e + 1
  nodes_of len = 1
  nodes_of (window f keys order mapping) = nodes_of f + all_nodes_of keys + order_nodes_of order + 1

  -- how many nodes some trees have together
  pub all_nodes_of : Trees → ℕ
  all_nodes_of no_trees = 0
  all_nodes_of (one_tree t ts) = nodes_of t + all_nodes_of ts

  -- how many nodes the tree of an order has, none without an order
  pub order_nodes_of : Order → ℕ
  order_nodes_of no_order = 0
  order_nodes_of (ordered t options) = nodes_of t

abbrev mutual
  -- the trees of a tree's nodes, each after those of its children, and these from left to right
  pub postorder : Tree → List Tree
  postorder (column n) = column n ∷ []
  postorder (literal v) = literal v ∷ []
  postorder (alias e n) = postorder e ++ alias e n ∷ []
  postorder (binary l op r) = (postorder l ++ postorder r) ++ binary l op r ∷ []
  postorder (ternary p a b) = (postorder p ++ (postorder a ++ postorder b)) ++ ternary p a b ∷ []
  postorder (cast e k options) = postorder e ++ cast e k options ∷ []
  postorder (function es f) = all_postorder es ++ function es f ∷ []
  postorder (filter e by) = (postorder e ++ postorder by) ++ filter e by ∷ []
  postorder (slice e offset length) = (postorder e ++ (postorder offset ++ postorder length)) ++ slice e offset length ∷ []
  postorder (gather e idx one) = (postorder e ++ postorder idx) ++ gather e idx one ∷ []
  postorder (sort e options) = postorder e ++ sort e options ∷ []
  postorder (sort_by e by options) = (postorder e ++ all_postorder by) ++ sort_by e by options ∷ []
  postorder (agg m e) = postorder e ++ agg m e ∷ []
  postorder len = len ∷ []
  postorder (window f keys order mapping) = (postorder f ++ (all_postorder keys ++ order_postorder order)) ++ window f keys order mapping ∷ []

  -- those of some trees, one tree after another
  pub all_postorder : Trees → List Tree
  all_postorder no_trees = []
  all_postorder (one_tree t ts) = postorder t ++ all_postorder ts

  -- those of the tree of an order, none without an order
  pub order_postorder : Order → List Tree
  order_postorder no_order = []
  order_postorder (ordered t options) = postorder t

-- those of a tree's children
abbrev pub children_postorder : Tree → List Tree
children_postorder (column n) = []
children_postorder (literal v) = []
children_postorder (alias e n) = postorder e
children_postorder (binary l op r) = postorder l ++ postorder r
children_postorder (ternary p a b) = postorder p ++ (postorder a ++ postorder b)
children_postorder (cast e k options) = postorder e
children_postorder (function es f) = all_postorder es
children_postorder (filter e by) = postorder e ++ postorder by
children_postorder (slice e offset length) = postorder e ++ (postorder offset ++ postorder length)
children_postorder (gather e idx one) = postorder e ++ postorder idx
children_postorder (sort e options) = postorder e
children_postorder (sort_by e by options) = postorder e ++ all_postorder by
children_postorder (agg m e) = postorder e
children_postorder len = []
children_postorder (window f keys order mapping) = postorder f ++ (all_postorder keys ++ order_postorder order)

abbrev mutual
  -- the names of the columns that are a tree's leaves, from left to right, with repeats
  pub leaf_names : Tree → List (List ℕ)
  leaf_names (column n) = n ∷ []
  leaf_names (literal v) = []
  leaf_names (alias e n) = leaf_names e
  leaf_names (binary l op r) = leaf_names l ++ leaf_names r
  leaf_names (ternary p a b) = leaf_names p ++ (leaf_names a ++ leaf_names b)
  leaf_names (cast e k options) = leaf_names e
  leaf_names (function es f) = all_leaf_names es
  leaf_names (filter e by) = leaf_names e ++ leaf_names by
  leaf_names (slice e offset length) = leaf_names e ++ (leaf_names offset ++ leaf_names length)
  leaf_names (gather e idx one) = leaf_names e ++ leaf_names idx
  leaf_names (sort e options) = leaf_names e
  leaf_names (sort_by e by options) = leaf_names e ++ all_leaf_names by
  leaf_names (agg m e) = leaf_names e
  leaf_names len = []
  leaf_names (window f keys order mapping) = leaf_names f ++ (all_leaf_names keys ++ order_leaf_names order)

  -- those of some trees, from left to right
  pub all_leaf_names : Trees → List (List ℕ)
  all_leaf_names no_trees = []
  all_leaf_names (one_tree t ts) = leaf_names t ++ all_leaf_names ts

  -- those of the tree of an order, none without an order
  pub order_leaf_names : Order → List (List ℕ)
  order_leaf_names no_order = []
  order_leaf_names (ordered t options) = leaf_names t
