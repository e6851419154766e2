use Rattle.std.proofs.Common.{rules, ◌-◌, Option, Some, None, option_map, refl, subst}
use Rattle.px_column.specs.Prelude.{Series}
use Rattle.px_frame.specs.CellView.{named_cell}
use Rattle.px_frame.specs.declared.cell.Cell.{Cell}
use Rattle.px_physical.proofs.Inlined.{alias_inline, inline_done, inline_more, inline_stops}
use Rattle.px_answers.specs.Inline.{IsInline, IsInlineCell}
use Rattle.px_physical.specs.NodeView.{plan_of}
use Rattle.px_physical.proofs.+inline.Goals as goal

pub alias::AliasExprPhysicalExpr::evaluate_inline_impl-returns-in-None : goal.alias::AliasExprPhysicalExpr::evaluate_inline_impl-returns-in-None
alias::AliasExprPhysicalExpr::evaluate_inline_impl-returns-in-None t c =
    let e = (plan_of c.deref.result.now).tree in
    let below : IsInline (c.args.depth_limit - 1) e None = subst (λ (o : Option Series). IsInline (c.args.depth_limit - 1) e o) c.in-None.is c.in_ok-column.ensures.inline in
    record { inline = alias_inline c.args.depth_limit c.args.self.now.tree e c.self.inside.name None None (search rules) c.if-depth_limit-eq0.false below refl }

pub inline::inline_cells-returns-in-None : goal.inline::inline_cells-returns-in-None
inline::inline_cells-returns-in-None t c =
    let one : IsInlineCell c.args.depth_limit (plan_of c.node-item.result).tree None = subst (λ (o : Option Cell). IsInlineCell c.args.depth_limit (plan_of c.node-item.result).tree (option_map named_cell o)) c.in-None.is c.in_ok-cell.ensures in
    inline_stops c.args.depth_limit c.args.nodes.now c.loop-node.node-index c.node-item.result c.loop-node-test.true c.node-item.is c.loop-node.cells.items c.loop-node.invariant one

pub inline::inline_cells-loop-node-preserved : goal.inline::inline_cells-loop-node-preserved
inline::inline_cells-loop-node-preserved t c =
    let one : IsInlineCell c.args.depth_limit (plan_of c.node-item.result).tree (Some (named_cell c.in-Some.cell))
    = subst (λ (o : Option Cell). IsInlineCell c.args.depth_limit (plan_of c.node-item.result).tree (option_map named_cell o)) c.in-Some.is c.in_ok-cell.ensures in
    inline_more c.args.depth_limit c.args.nodes.now c.loop-node.node-index c.node-item.result c.loop-node-test.true c.node-item.is c.loop-node.cells.items c.loop-node.invariant c.push.new.self.items c.in-Some.cell c.in_ok-push-in-Some.ensures.items one

pub inline::inline_cells-returns : goal.inline::inline_cells-returns
inline::inline_cells-returns t c = inline_done c.args.depth_limit c.args.nodes.now c.loop-node.node-index c.loop-node.cells.items c.loop-node-test.false c.loop-node.invariant
