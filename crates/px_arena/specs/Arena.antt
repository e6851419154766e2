-- What contracts see of an arena: the trees of its nodes, each made of the trees that stand before it.
use Rattle.std.specs.Prelude.{◌≡◌, ℕ, ◌<◌, ◌^◌, Bool, true, ◌&&◌, nat_lt, List, [], ◌∷◌, ◌++◌, length, map, Option, Some, None, slice_index_or, slice_get}
use Rattle.px_column.specs.Prelude.{kind_of}
use Rattle.px_value.specs.declared.method.GroupByMethod.{GroupByMethod}
use Rattle.px_value.specs.declared.method.GroupByMethod.TheVariants as method
use Rattle.px_value.specs.declared.sort_options.SortOptions.{SortOptions}
use Rattle.px_tree.specs.Tree as t
use Rattle.px_tree.specs.Tree.{Tree, Trees, Order, trees_of, no_trees, one_tree, no_order, ordered}
use Rattle.px_tree.specs.View.{literal_of, mapping_of}
use Rattle.px_arena.specs.declared.node.AExpr.{AExpr}
use Rattle.px_arena.specs.declared.node.AExpr.TheVariants as node
use Rattle.px_arena.specs.declared.node.IRAggExpr.{IRAggExpr}
use Rattle.px_arena.specs.declared.node.IRAggExpr.TheVariants as agg
use Rattle.px_arena.specs.declared.node.Node.{Node}

-- the tree at a place
abbrev pub tree_at : List Tree → Node → Tree
tree_at ts n = slice_index_or ts n.0 t.len

-- the trees at some places
abbrev pub trees_at : List Tree → List Node → Trees
trees_at ts ns = trees_of (map (tree_at ts) ns)

-- an order by the tree at a place, or no order
abbrev pub order_at : List Tree → Option (Node × SortOptions) → Order
order_at ts None = no_order
order_at ts (Some o) = ordered (tree_at ts o.0) o.1

-- what a reduction reduces
abbrev pub agg_input : IRAggExpr → Node
agg_input (agg.Min e) = e
agg_input (agg.Max e) = e
agg_input (agg.Sum e) = e
agg_input (agg.First e) = e
agg_input (agg.Last e) = e
agg_input (agg.NUnique e) = e
agg_input (agg.Implode e) = e
agg_input (agg.Count e b) = e

-- how a reduction reduces
abbrev pub agg_method : IRAggExpr → GroupByMethod
agg_method (agg.Min e) = method.Min
agg_method (agg.Max e) = method.Max
agg_method (agg.Sum e) = method.Sum
agg_method (agg.First e) = method.First
agg_method (agg.Last e) = method.Last
agg_method (agg.NUnique e) = method.NUnique
agg_method (agg.Implode e) = method.Implode
agg_method (agg.Count e b) = method.Count b

-- the tree of a reduction of the tree at a place
abbrev pub agg_at : List Tree → IRAggExpr → Tree
agg_at ts a = t.agg (agg_method a) (tree_at ts (agg_input a))

-- the tree of a node over the trees at its children's places
abbrev pub node_tree : List Tree → AExpr → Tree
node_tree ts (node.Column n) = t.column n
node_tree ts (node.Literal v) = t.literal (literal_of v)
node_tree ts (node.Alias e n) = t.alias (tree_at ts e) n
node_tree ts (node.BinaryExpr l op r) = t.binary (tree_at ts l) op (tree_at ts r)
node_tree ts (node.Ternary p a b) = t.ternary (tree_at ts p) (tree_at ts a) (tree_at ts b)
node_tree ts (node.Cast e dtype options) = t.cast (tree_at ts e) (kind_of dtype) options
node_tree ts (node.Function es f) = t.function (trees_at ts es.items) (t.by_name f)
node_tree ts (node.Explode e) = t.function (one_tree (tree_at ts e) no_trees) t.as_explode
node_tree ts (node.Filter e by) = t.filter (tree_at ts e) (tree_at ts by)
node_tree ts (node.Slice e offset length) = t.slice (tree_at ts e) (tree_at ts offset) (tree_at ts length)
node_tree ts (node.Gather e idx one) = t.gather (tree_at ts e) (tree_at ts idx) one
node_tree ts (node.Sort e options) = t.sort (tree_at ts e) options
node_tree ts (node.SortBy e by options) = t.sort_by (tree_at ts e) (trees_at ts by.items) options
node_tree ts (node.Agg a) = agg_at ts a
node_tree ts node.Len = t.len
node_tree ts (node.Window f keys order options) = t.window (tree_at ts f) (trees_at ts keys.items) (order_at ts order) (mapping_of options)

-- whether a place stands before another
abbrev pub is_below : ℕ → Node → Bool
is_below i n = nat_lt n.0 i

-- whether each of some places does
abbrev pub all_below : ℕ → List Node → Bool
all_below i [] = true
all_below i (n ∷ ns) = is_below i n && all_below i ns

-- whether the place of an order does, where there is one
abbrev pub order_below : ℕ → Option (Node × SortOptions) → Bool
order_below i None = true
order_below i (Some o) = is_below i o.0

-- whether each child of a node stands before a place
abbrev pub children_below : ℕ → AExpr → Bool
children_below i (node.Column n) = true
children_below i (node.Literal v) = true
children_below i (node.Alias e n) = is_below i e
children_below i (node.BinaryExpr l op r) = is_below i l && is_below i r
children_below i (node.Ternary p a b) = is_below i p && (is_below i a && is_below i b)
children_below i (node.Cast e dtype options) = is_below i e
children_below i (node.Function es f) = all_below i es.items
children_below i (node.Explode e) = is_below i e
children_below i (node.Filter e by) = is_below i e && is_below i by
children_below i (node.Slice e offset length) = is_below i e && (is_below i offset && is_below i length)
children_below i (node.Gather e idx one) = is_below i e && is_below i idx
children_below i (node.Sort e options) = is_below i e
children_below i (node.SortBy e by options) = is_below i e && all_below i by.items
children_below i (node.Agg a) = is_below i (agg_input a)
children_below i node.Len = true
children_below i (node.Window f keys order options) = is_below i f && (all_below i keys.items && order_below i order)

-- the trees of nodes behind others
abbrev pub grow : List Tree → List AExpr → List Tree
grow ts [] = ts
grow ts (n ∷ ns) = grow (ts ++ node_tree ts n ∷ []) ns

-- the trees of an arena's nodes
unfoldable pub trees_in : List AExpr → List Tree
trees_in ns = grow [] ns

-- each node stands behind its children, and there are fewer than 2^32 of them
pub record IsArena (ns : List AExpr) : Type 0 where
  pub falls : (i : ℕ) (n : AExpr) → slice_get ns i ≡ Some n → children_below i n ≡ true
  pub short : length ns < 2 ^ 32
