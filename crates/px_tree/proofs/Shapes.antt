-- The trees of expressions, by the expressions inside.
use Rattle.std.proofs.Common.{◌≡◌, Bool, Option, Some, None, sym, ap, ◌∙◌}
use Rattle.std.specs.declared.alloc.Global.{Global}
use Rattle.std.specs.declared.rc.Rc.{Rc}
use Rattle.px_column.specs.Prelude.{kind_of}
use Rattle.px_value.specs.declared.data_type.DataType.{DataType}
use Rattle.px_value.specs.declared.name.Name.{Name}
use Rattle.px_value.specs.declared.cast_options.CastOptions.{CastOptions}
use Rattle.px_value.specs.declared.operator.Operator.{Operator}
use Rattle.px_value.specs.declared.sort_options.SortMultipleOptions.{SortMultipleOptions}
use Rattle.px_value.specs.declared.sort_options.SortOptions.{SortOptions}
use Rattle.px_tree.specs.Tree.{Tree, Trees, by_name, as_explode, no_trees, one_tree, column, literal, alias, binary, ternary, cast, function, filter, slice, gather, sort, sort_by, window}
use Rattle.px_tree.specs.View.{tree, trees, order_tree, agg_tree, literal_of, agg_step, tree_step, trees_step, mapping_of}
use Rattle.px_tree.specs.declared.expr.AggExpr.TheOpen.{Expr-F}
use Rattle.px_tree.specs.declared.expr.AggExpr.{AggExpr}
use Rattle.px_tree.specs.declared.expr.Expr.{Expr, fold-roll-Expr}
use Rattle.px_tree.specs.declared.expr.Expr.TheVariants.{Column, Literal, Alias, BinaryExpr, Ternary, Cast, Function, Explode, Filter, Slice, Gather, Sort, SortBy, Agg, Window, rolls-Column, rolls-Literal, rolls-Alias, rolls-BinaryExpr, rolls-Ternary, rolls-Cast, rolls-Function, rolls-Explode, rolls-Filter, rolls-Slice, rolls-Gather, rolls-Sort, rolls-SortBy, rolls-Agg, rolls-Window}
use Rattle.px_tree.specs.declared.expr.Exprs.{Exprs}
use Rattle.px_tree.specs.declared.function.FunctionExpr.{FunctionExpr}
use Rattle.px_tree.specs.declared.literal.LiteralValue.{LiteralValue}
use Rattle.px_tree.specs.declared.window.WindowType.{WindowType}

pub tree-Column : (n : Name) → tree (Column n) ≡ column n
tree-Column n = ap tree (sym (rolls-Column n)) ∙ fold-roll-Expr Tree Tree Trees agg_step tree_step trees_step (Expr-F.Column n)

pub tree-Literal : (v : LiteralValue) → tree (Literal v) ≡ literal (literal_of v)
tree-Literal v = ap tree (sym (rolls-Literal v)) ∙ fold-roll-Expr Tree Tree Trees agg_step tree_step trees_step (Expr-F.Literal v)

pub tree-Alias : (x : Rc Expr Global) (n : Name) → tree (Alias x n) ≡ alias (tree x.value) n
tree-Alias x n = ap tree (sym (rolls-Alias x n)) ∙ fold-roll-Expr Tree Tree Trees agg_step tree_step trees_step (Expr-F.Alias x n)

pub tree-Cast : (x : Rc Expr Global) (dtype : DataType) (options : CastOptions) → tree (Cast x dtype options) ≡ cast (tree x.value) (kind_of dtype) options
tree-Cast x dtype options = ap tree (sym (rolls-Cast x dtype options)) ∙ fold-roll-Expr Tree Tree Trees agg_step tree_step trees_step (Expr-F.Cast x dtype options)

pub tree-Function : (es : Exprs) (f : FunctionExpr) → tree (Function es f) ≡ function (trees es) (by_name f)
tree-Function es f = ap tree (sym (rolls-Function es f)) ∙ fold-roll-Expr Tree Tree Trees agg_step tree_step trees_step (Expr-F.Function es f)

pub tree-Explode : (x : Rc Expr Global) → tree (Explode x) ≡ function (one_tree (tree x.value) no_trees) as_explode
tree-Explode x = ap tree (sym (rolls-Explode x)) ∙ fold-roll-Expr Tree Tree Trees agg_step tree_step trees_step (Expr-F.Explode x)

pub tree-Sort : (x : Rc Expr Global) (options : SortOptions) → tree (Sort x options) ≡ sort (tree x.value) options
tree-Sort x options = ap tree (sym (rolls-Sort x options)) ∙ fold-roll-Expr Tree Tree Trees agg_step tree_step trees_step (Expr-F.Sort x options)

pub tree-Agg : (a : AggExpr) → tree (Agg a) ≡ agg_tree a
tree-Agg a = ap tree (sym (rolls-Agg a)) ∙ fold-roll-Expr Tree Tree Trees agg_step tree_step trees_step (Expr-F.Agg a)

pub tree-BinaryExpr : (x : Rc Expr Global) (op : Operator) (y : Rc Expr Global) → tree (BinaryExpr x op y) ≡ binary (tree x.value) op (tree y.value)
tree-BinaryExpr x op y = ap tree (sym (rolls-BinaryExpr x op y)) ∙ fold-roll-Expr Tree Tree Trees agg_step tree_step trees_step (Expr-F.BinaryExpr x op y)

pub tree-Filter : (x y : Rc Expr Global) → tree (Filter x y) ≡ filter (tree x.value) (tree y.value)
tree-Filter x y = ap tree (sym (rolls-Filter x y)) ∙ fold-roll-Expr Tree Tree Trees agg_step tree_step trees_step (Expr-F.Filter x y)

pub tree-Gather : (x y : Rc Expr Global) (one : Bool) → tree (Gather x y one) ≡ gather (tree x.value) (tree y.value) one
tree-Gather x y one = ap tree (sym (rolls-Gather x y one)) ∙ fold-roll-Expr Tree Tree Trees agg_step tree_step trees_step (Expr-F.Gather x y one)

pub tree-Ternary : (x y z : Rc Expr Global) → tree (Ternary x y z) ≡ ternary (tree x.value) (tree y.value) (tree z.value)
tree-Ternary x y z = ap tree (sym (rolls-Ternary x y z)) ∙ fold-roll-Expr Tree Tree Trees agg_step tree_step trees_step (Expr-F.Ternary x y z)

pub tree-Slice : (x y z : Rc Expr Global) → tree (Slice x y z) ≡ slice (tree x.value) (tree y.value) (tree z.value)
tree-Slice x y z = ap tree (sym (rolls-Slice x y z)) ∙ fold-roll-Expr Tree Tree Trees agg_step tree_step trees_step (Expr-F.Slice x y z)

pub tree-SortBy : (x : Rc Expr Global) (by : Exprs) (options : SortMultipleOptions) → tree (SortBy x by options) ≡ sort_by (tree x.value) (trees by) options
tree-SortBy x by options = ap tree (sym (rolls-SortBy x by options)) ∙ fold-roll-Expr Tree Tree Trees agg_step tree_step trees_step (Expr-F.SortBy x by options)

pub tree-Window : (f : Rc Expr Global) (keys : Exprs) (order : Option (Rc Expr Global × SortOptions)) (options : WindowType) → tree (Window f keys order options) ≡ window (tree f.value) (trees keys) (order_tree order) (mapping_of options)
tree-Window f keys None options = ap tree (sym (rolls-Window f keys None options)) ∙ fold-roll-Expr Tree Tree Trees agg_step tree_step trees_step (Expr-F.Window f keys None options)
tree-Window f keys (Some o) options = ap tree (sym (rolls-Window f keys (Some o) options)) ∙ fold-roll-Expr Tree Tree Trees agg_step tree_step trees_step (Expr-F.Window f keys (Some o) options)
