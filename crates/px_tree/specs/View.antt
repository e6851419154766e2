-- The tree that an `Expr` stands for.
use Rattle.std.specs.Prelude.{pos, Option, Some, None}
use Rattle.std.specs.declared.alloc.Global.{Global}
use Rattle.std.specs.declared.rc.Rc.{Rc}
use Rattle.px_column.specs.Prelude.{boolean, integer, text, bytes, kind_of}
use Rattle.px_value.specs.Kind as k
use Rattle.px_value.specs.declared.method.GroupByMethod.TheVariants as method
use Rattle.px_value.specs.declared.sort_options.SortOptions.{SortOptions}
use Rattle.px_tree.specs.Tree as t
use Rattle.px_tree.specs.Tree.{Tree, Trees, Order, by_name, as_explode, trees_of, no_trees, one_tree, no_order, ordered, Literal, single, range, series}
use Rattle.px_tree.specs.declared.expr.Expr.{Expr, fold-Expr}
use Rattle.px_tree.specs.declared.expr.Exprs.{Exprs, fold-Exprs}
use Rattle.px_tree.specs.declared.expr.AggExpr.{AggExpr, fold-AggExpr}
use Rattle.px_tree.specs.declared.expr.AggExpr.TheOpen.{AggExpr-F, Expr-F, Exprs-F}
use Rattle.px_tree.specs.declared.literal.LiteralValue.{LiteralValue}
use Rattle.px_tree.specs.declared.literal.LiteralValue.TheVariants.{Boolean, Int8, Int16, Int32, Int64, UInt8, UInt16, UInt32, UInt64, String, Binary, Null, Range, Series}
use Rattle.px_tree.specs.declared.window.WindowMapping.{WindowMapping}
use Rattle.px_tree.specs.declared.window.WindowType.{WindowType}
use Rattle.px_tree.specs.declared.window.WindowType.TheVariants.{Over}

-- the literal that a `LiteralValue` stands for
abbrev pub literal_of : LiteralValue → Literal
literal_of (Boolean b) = single k.booleans (Some (boolean b))
literal_of (Int8 z) = single k.int8s (Some (integer z))
literal_of (Int16 z) = single k.int16s (Some (integer z))
literal_of (Int32 z) = single k.int32s (Some (integer z))
literal_of (Int64 z) = single k.int64s (Some (integer z))
literal_of (UInt8 n) = single k.uint8s (Some (integer (pos n)))
literal_of (UInt16 n) = single k.uint16s (Some (integer (pos n)))
literal_of (UInt32 n) = single k.uint32s (Some (integer (pos n)))
literal_of (UInt64 n) = single k.uint64s (Some (integer (pos n)))
literal_of (String s) = single k.strings (Some (text s))
literal_of (Binary s) = single k.binaries (Some (bytes s))
literal_of Null = single k.nulls None
literal_of (Range low high dtype) = range low high (kind_of dtype)
literal_of (Series s) = series s

-- how a window puts its cells in their places
abbrev pub mapping_of : WindowType → WindowMapping
mapping_of (Over m) = m

-- one level of a reduction, with the expression inside already seen as its tree
abbrev pub agg_step : AggExpr-F Tree Tree Trees → Tree
agg_step (AggExpr-F.Min e) = t.agg method.Min e.value
agg_step (AggExpr-F.Max e) = t.agg method.Max e.value
agg_step (AggExpr-F.Sum e) = t.agg method.Sum e.value
agg_step (AggExpr-F.First e) = t.agg method.First e.value
agg_step (AggExpr-F.Last e) = t.agg method.Last e.value
agg_step (AggExpr-F.NUnique e) = t.agg method.NUnique e.value
agg_step (AggExpr-F.Implode e) = t.agg method.Implode e.value
agg_step (AggExpr-F.Count e b) = t.agg (method.Count b) e.value

-- an order by an expression that is already seen as its tree, or no order
abbrev pub order_step : Option (Rc Tree Global × SortOptions) → Order
order_step None = no_order
order_step (Some o) = ordered o.0.value o.1

-- one level of an expression, with each one inside already seen as its tree
abbrev pub tree_step : Expr-F Tree Tree Trees → Tree
tree_step (Expr-F.Column n) = t.column n
tree_step (Expr-F.Literal v) = t.literal (literal_of v)
tree_step (Expr-F.Alias e n) = t.alias e.value n
tree_step (Expr-F.BinaryExpr l op r) = t.binary l.value op r.value
tree_step (Expr-F.Ternary p a b) = t.ternary p.value a.value b.value
tree_step (Expr-F.Cast e dtype options) = t.cast e.value (kind_of dtype) options
tree_step (Expr-F.Function es f) = t.function es (by_name f)
tree_step (Expr-F.Explode e) = t.function (one_tree e.value no_trees) as_explode
tree_step (Expr-F.Filter e by) = t.filter e.value by.value
tree_step (Expr-F.Slice e offset length) = t.slice e.value offset.value length.value
tree_step (Expr-F.Gather e idx one) = t.gather e.value idx.value one
tree_step (Expr-F.Sort e options) = t.sort e.value options
tree_step (Expr-F.SortBy e by options) = t.sort_by e.value by options
tree_step (Expr-F.Agg a) = a
tree_step Expr-F.Len = t.len
tree_step (Expr-F.Window f keys order options) = t.window f.value keys (order_step order) (mapping_of options)

-- a list of expressions, each already seen as its tree
abbrev pub trees_step : Exprs-F Tree Tree Trees → Trees
trees_step es = trees_of es.items.value.items

-- the tree that an expression stands for
abbrev pub tree : Expr → Tree
tree = fold-Expr Tree Tree Trees agg_step tree_step trees_step

-- the tree that a reduction stands for
abbrev pub agg_tree : AggExpr → Tree
agg_tree = fold-AggExpr Tree Tree Trees agg_step tree_step trees_step

-- the trees that a list of expressions stands for
abbrev pub trees : Exprs → Trees
trees = fold-Exprs Tree Tree Trees agg_step tree_step trees_step

-- what the rows of a part are ordered by
abbrev pub order_tree : Option (Rc Expr Global × SortOptions) → Order
order_tree None = no_order
order_tree (Some o) = ordered (tree o.0.value) o.1
