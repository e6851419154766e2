use Rattle.std.proofs.Common.{◌≡◌, map, refl, rules, sym, ap}
use Rattle.px_answers.specs.Live.{AddsFront, added, live_names, order_live_names}
use Rattle.px_answers.specs.Planned.{Planned}
use Rattle.px_answers.specs.Live.{all_live_names}
use Rattle.px_physical.specs.NodeView.{plan_of}
use Rattle.px_answers.specs.Parts.{binary_plan, filter_plan, gather_plan, plan_trees, slice_plan, plan_order, sort_by_plan, ternary_plan, under, window_plan}
use Rattle.std.proofs.lemmas.Result.{on_err_weaker, on_ok_weaker}
use Rattle.px_physical.proofs.LiveNames.{front_after, front_at, front_first, front_next, front_second, front_third, names_done, names_next, window_front, window_live, window_unnamed}
use Rattle.px_answers.proofs.Names.{alias_front, alias_whole, front_more}
use Rattle.px_physical.proofs.+live.Goals as goal
use Rattle.px_lowering.proofs.Adding.{OnErr-of}

pub alias::AliasExprPhysicalExpr::collect_live_columns-returns-in_err-collect_live_columns-clause-part : goal.alias::AliasExprPhysicalExpr::collect_live_columns-returns-in_err-collect_live_columns-clause-part
alias::AliasExprPhysicalExpr::collect_live_columns-returns-in_err-collect_live_columns-clause-part t c =
    OnErr-of _ (AddsFront c.args.lv.now.keys (live_names c.args.self.now.tree) c.collect_live_columns.new.lv.keys)
    (alias_front c.args.self.now _ _ c.args.lv.now.keys c.collect_live_columns.new.lv.keys (ap (λ (p : Planned). p.tree) (sym c.self.view_is)) (search rules))

pub alias::AliasExprPhysicalExpr::collect_live_columns-returns-in_err-try_clone-clause-part : goal.alias::AliasExprPhysicalExpr::collect_live_columns-returns-in_err-try_clone-clause-part
alias::AliasExprPhysicalExpr::collect_live_columns-returns-in_err-try_clone-clause-part t c =
    OnErr-of _ (AddsFront c.args.lv.now.keys (live_names c.args.self.now.tree) c.collect_live_columns.new.lv.keys)
    (alias_whole c.args.self.now _ _ c.args.lv.now.keys c.collect_live_columns.new.lv.keys (ap (λ (p : Planned). p.tree) (sym c.self.view_is)) (search rules))

pub alias::AliasExprPhysicalExpr::collect_live_columns-returns-in_err-insert_full-clause-part : goal.alias::AliasExprPhysicalExpr::collect_live_columns-returns-in_err-insert_full-clause-part
alias::AliasExprPhysicalExpr::collect_live_columns-returns-in_err-insert_full-clause-part t c =
    OnErr-of _ (AddsFront c.args.lv.now.keys (live_names c.args.self.now.tree) c.insert_full.new.self.keys)
    (alias_whole c.args.self.now _ _ c.args.lv.now.keys c.insert_full.new.self.keys (ap (λ (p : Planned). p.tree) (sym c.self.view_is)) (search rules))

-- nodes of two and three inputs
pub binary::BinaryExprPhysicalExpr::collect_live_columns-returns-in_err-collect_live_columns-clause-part : goal.binary::BinaryExprPhysicalExpr::collect_live_columns-returns-in_err-collect_live_columns-clause-part
binary::BinaryExprPhysicalExpr::collect_live_columns-returns-in_err-collect_live_columns-clause-part t c =
    OnErr-of _ (AddsFront c.args.lv.now.keys (live_names (binary_plan c.args.self.now).tree) c.collect_live_columns.new.lv.keys) (front_more c.args.lv.now.keys (live_names c.args.self.now.left.tree) (live_names c.args.self.now.right.tree) c.collect_live_columns.new.lv.keys (search rules))

pub binary::BinaryExprPhysicalExpr::collect_live_columns-returns-clause-part : goal.binary::BinaryExprPhysicalExpr::collect_live_columns-returns-clause-part
binary::BinaryExprPhysicalExpr::collect_live_columns-returns-clause-part t c =
    on_err_weaker _ (front_after c.args.lv.now.keys c.collect_live_columns.new.lv.keys c.collect_live_columns-2.new.lv.keys (live_names c.args.self.now.left.tree) (live_names c.args.self.now.right.tree) (search rules)) (search rules)

pub filter::FilterExprPhysicalExpr::collect_live_columns-returns-in_err-collect_live_columns-clause-part : goal.filter::FilterExprPhysicalExpr::collect_live_columns-returns-in_err-collect_live_columns-clause-part
filter::FilterExprPhysicalExpr::collect_live_columns-returns-in_err-collect_live_columns-clause-part t c =
    OnErr-of _ (AddsFront c.args.lv.now.keys (live_names (filter_plan c.args.self.now).tree) c.collect_live_columns.new.lv.keys) (front_more c.args.lv.now.keys (live_names c.args.self.now.input.tree) (live_names c.args.self.now.by.tree) c.collect_live_columns.new.lv.keys (search rules))

pub filter::FilterExprPhysicalExpr::collect_live_columns-returns-clause-part : goal.filter::FilterExprPhysicalExpr::collect_live_columns-returns-clause-part
filter::FilterExprPhysicalExpr::collect_live_columns-returns-clause-part t c =
    on_err_weaker _ (front_after c.args.lv.now.keys c.collect_live_columns.new.lv.keys c.collect_live_columns-2.new.lv.keys (live_names c.args.self.now.input.tree) (live_names c.args.self.now.by.tree) (search rules)) (search rules)

pub gather::GatherExprPhysicalExpr::collect_live_columns-returns-in_err-collect_live_columns-clause-part : goal.gather::GatherExprPhysicalExpr::collect_live_columns-returns-in_err-collect_live_columns-clause-part
gather::GatherExprPhysicalExpr::collect_live_columns-returns-in_err-collect_live_columns-clause-part t c =
    OnErr-of _ (AddsFront c.args.lv.now.keys (live_names (gather_plan c.args.self.now).tree) c.collect_live_columns.new.lv.keys) (front_more c.args.lv.now.keys (live_names c.args.self.now.phys_expr.tree) (live_names c.args.self.now.idx.tree) c.collect_live_columns.new.lv.keys (search rules))

pub gather::GatherExprPhysicalExpr::collect_live_columns-returns-clause-part : goal.gather::GatherExprPhysicalExpr::collect_live_columns-returns-clause-part
gather::GatherExprPhysicalExpr::collect_live_columns-returns-clause-part t c =
    on_err_weaker _ (front_after c.args.lv.now.keys c.collect_live_columns.new.lv.keys c.collect_live_columns-2.new.lv.keys (live_names c.args.self.now.phys_expr.tree) (live_names c.args.self.now.idx.tree) (search rules)) (search rules)

pub sort_by::SortByExprPhysicalExpr::collect_live_columns-returns-in_err-collect_live_columns-clause-part : goal.sort_by::SortByExprPhysicalExpr::collect_live_columns-returns-in_err-collect_live_columns-clause-part
sort_by::SortByExprPhysicalExpr::collect_live_columns-returns-in_err-collect_live_columns-clause-part t c =
    OnErr-of _ (AddsFront c.args.lv.now.keys (live_names (sort_by_plan c.args.self.now).tree) c.collect_live_columns.new.lv.keys) (front_more c.args.lv.now.keys (live_names c.args.self.now.input.tree) (all_live_names (plan_trees c.args.self.now.by)) c.collect_live_columns.new.lv.keys (search rules))

pub sort_by::SortByExprPhysicalExpr::collect_live_columns-returns-clause-part : goal.sort_by::SortByExprPhysicalExpr::collect_live_columns-returns-clause-part
sort_by::SortByExprPhysicalExpr::collect_live_columns-returns-clause-part t c =
    on_err_weaker _ (front_after c.args.lv.now.keys c.collect_live_columns.new.lv.keys c.collect_all.new.lv.keys (live_names c.args.self.now.input.tree) (all_live_names (plan_trees c.args.self.now.by)) (search rules)) (search rules)

pub slice::SliceExprPhysicalExpr::collect_live_columns-returns-in_err-collect_live_columns-clause-part : goal.slice::SliceExprPhysicalExpr::collect_live_columns-returns-in_err-collect_live_columns-clause-part
slice::SliceExprPhysicalExpr::collect_live_columns-returns-in_err-collect_live_columns-clause-part t c =
    OnErr-of _ (AddsFront c.args.lv.now.keys (live_names (slice_plan c.args.self.now).tree) c.collect_live_columns.new.lv.keys) (front_first c.args.lv.now.keys c.collect_live_columns.new.lv.keys (live_names c.args.self.now.input.tree) (live_names c.args.self.now.offset.tree) (live_names c.args.self.now.length.tree) (search rules))

pub slice::SliceExprPhysicalExpr::collect_live_columns-returns-in_err-collect_live_columns-2-clause-part : goal.slice::SliceExprPhysicalExpr::collect_live_columns-returns-in_err-collect_live_columns-2-clause-part
slice::SliceExprPhysicalExpr::collect_live_columns-returns-in_err-collect_live_columns-2-clause-part t c =
    OnErr-of _ (AddsFront c.args.lv.now.keys (live_names (slice_plan c.args.self.now).tree) c.collect_live_columns-2.new.lv.keys) (front_second c.args.lv.now.keys c.collect_live_columns.new.lv.keys c.collect_live_columns-2.new.lv.keys (live_names c.args.self.now.input.tree) (live_names c.args.self.now.offset.tree) (live_names c.args.self.now.length.tree) (search rules) (search rules))

pub slice::SliceExprPhysicalExpr::collect_live_columns-returns-clause-part : goal.slice::SliceExprPhysicalExpr::collect_live_columns-returns-clause-part
slice::SliceExprPhysicalExpr::collect_live_columns-returns-clause-part t c =
    on_err_weaker _ (front_third c.args.lv.now.keys c.collect_live_columns.new.lv.keys c.collect_live_columns-2.new.lv.keys c.collect_live_columns-3.new.lv.keys (live_names c.args.self.now.input.tree) (live_names c.args.self.now.offset.tree) (live_names c.args.self.now.length.tree) (search rules) (search rules)) (search rules)

pub ternary::TernaryExprPhysicalExpr::collect_live_columns-returns-in_err-collect_live_columns-clause-part : goal.ternary::TernaryExprPhysicalExpr::collect_live_columns-returns-in_err-collect_live_columns-clause-part
ternary::TernaryExprPhysicalExpr::collect_live_columns-returns-in_err-collect_live_columns-clause-part t c =
    OnErr-of _ (AddsFront c.args.lv.now.keys (live_names (ternary_plan c.args.self.now).tree) c.collect_live_columns.new.lv.keys) (front_first c.args.lv.now.keys c.collect_live_columns.new.lv.keys (live_names c.args.self.now.predicate.tree) (live_names c.args.self.now.truthy.tree) (live_names c.args.self.now.falsy.tree) (search rules))

pub ternary::TernaryExprPhysicalExpr::collect_live_columns-returns-in_err-collect_live_columns-2-clause-part : goal.ternary::TernaryExprPhysicalExpr::collect_live_columns-returns-in_err-collect_live_columns-2-clause-part
ternary::TernaryExprPhysicalExpr::collect_live_columns-returns-in_err-collect_live_columns-2-clause-part t c =
    OnErr-of _ (AddsFront c.args.lv.now.keys (live_names (ternary_plan c.args.self.now).tree) c.collect_live_columns-2.new.lv.keys) (front_second c.args.lv.now.keys c.collect_live_columns.new.lv.keys c.collect_live_columns-2.new.lv.keys (live_names c.args.self.now.predicate.tree) (live_names c.args.self.now.truthy.tree) (live_names c.args.self.now.falsy.tree) (search rules) (search rules))

pub ternary::TernaryExprPhysicalExpr::collect_live_columns-returns-clause-part : goal.ternary::TernaryExprPhysicalExpr::collect_live_columns-returns-clause-part
ternary::TernaryExprPhysicalExpr::collect_live_columns-returns-clause-part t c =
    on_err_weaker _ (front_third c.args.lv.now.keys c.collect_live_columns.new.lv.keys c.collect_live_columns-2.new.lv.keys c.collect_live_columns-3.new.lv.keys (live_names c.args.self.now.predicate.tree) (live_names c.args.self.now.truthy.tree) (live_names c.args.self.now.falsy.tree) (search rules) (search rules)) (search rules)

-- windows
pub window::WindowExprPhysicalExpr::collect_live_columns-returns-in_err-collect_all-clause-part : goal.window::WindowExprPhysicalExpr::collect_live_columns-returns-in_err-collect_all-clause-part
window::WindowExprPhysicalExpr::collect_live_columns-returns-in_err-collect_all-clause-part t c =
    OnErr-of _ (AddsFront c.args.lv.now.keys (live_names (window_plan c.args.self.now).tree) c.collect_all.new.lv.keys) (front_first c.args.lv.now.keys c.collect_all.new.lv.keys (all_live_names (plan_trees c.args.self.now.group_by)) (order_live_names (plan_order c.args.self.now.order_by)) (live_names (under c.args.self.now.out_name c.args.self.now.phys_function.tree)) (search rules))

pub window::WindowExprPhysicalExpr::collect_live_columns-returns-in_err-collect_order-clause-part : goal.window::WindowExprPhysicalExpr::collect_live_columns-returns-in_err-collect_order-clause-part
window::WindowExprPhysicalExpr::collect_live_columns-returns-in_err-collect_order-clause-part t c =
    OnErr-of _ (AddsFront c.args.lv.now.keys (live_names (window_plan c.args.self.now).tree) c.collect_order.new.lv.keys) (front_second c.args.lv.now.keys c.collect_all.new.lv.keys c.collect_order.new.lv.keys (all_live_names (plan_trees c.args.self.now.group_by)) (order_live_names (plan_order c.args.self.now.order_by)) (live_names (under c.args.self.now.out_name c.args.self.now.phys_function.tree)) (search rules) (search rules))

pub window::WindowExprPhysicalExpr::collect_live_columns-returns-in_err-collect_live_columns-clause-part : goal.window::WindowExprPhysicalExpr::collect_live_columns-returns-in_err-collect_live_columns-clause-part
window::WindowExprPhysicalExpr::collect_live_columns-returns-in_err-collect_live_columns-clause-part t c =
    OnErr-of _ (AddsFront c.args.lv.now.keys (live_names (window_plan c.args.self.now).tree) c.collect_live_columns.new.lv.keys) (window_front c.args.self.now c.args.lv.now.keys c.collect_all.new.lv.keys c.collect_order.new.lv.keys (search rules) (search rules) c.collect_live_columns.new.lv.keys (search rules))

pub window::WindowExprPhysicalExpr::collect_live_columns-returns-clause-live : goal.window::WindowExprPhysicalExpr::collect_live_columns-returns-clause-live
window::WindowExprPhysicalExpr::collect_live_columns-returns-clause-live t c =
    let keys : c.collect_all.new.lv.keys ≡ added c.args.lv.now.keys (all_live_names (plan_trees c.args.self.now.group_by)) = search rules in
    let order : c.collect_order.new.lv.keys ≡ added c.collect_all.new.lv.keys (order_live_names (plan_order c.args.self.now.order_by)) = search rules in
    let done : c.collect_live_columns.new.lv.keys ≡ added c.collect_order.new.lv.keys (live_names c.args.self.now.phys_function.tree) = search rules in
    on_ok_weaker _ (λ h. window_live c.args.self.now c.args.lv.now.keys c.collect_all.new.lv.keys c.collect_order.new.lv.keys keys order c.collect_live_columns.new.lv.keys c.add_out_name.new.lv.keys done h) (search rules)

pub window::WindowExprPhysicalExpr::collect_live_columns-returns-clause-part : goal.window::WindowExprPhysicalExpr::collect_live_columns-returns-clause-part
window::WindowExprPhysicalExpr::collect_live_columns-returns-clause-part t c =
    let keys : c.collect_all.new.lv.keys ≡ added c.args.lv.now.keys (all_live_names (plan_trees c.args.self.now.group_by)) = search rules in
    let order : c.collect_order.new.lv.keys ≡ added c.collect_all.new.lv.keys (order_live_names (plan_order c.args.self.now.order_by)) = search rules in
    let done : c.collect_live_columns.new.lv.keys ≡ added c.collect_order.new.lv.keys (live_names c.args.self.now.phys_function.tree) = search rules in
    on_err_weaker _ (λ h. window_unnamed c.args.self.now c.args.lv.now.keys c.collect_all.new.lv.keys c.collect_order.new.lv.keys keys order c.collect_live_columns.new.lv.keys c.add_out_name.new.lv.keys done h) (search rules)

-- a list of nodes
pub phys_expr::collect_all-loop-node-init : goal.phys_expr::collect_all-loop-node-init
phys_expr::collect_all-loop-node-init t c =
    record { all = refl; part = λ now f. f }

pub phys_expr::collect_all-returns-in_err-collect_live_columns-clause-part : goal.phys_expr::collect_all-returns-in_err-collect_live_columns-clause-part
phys_expr::collect_all-returns-in_err-collect_live_columns-clause-part t c =
    OnErr-of _ (AddsFront c.args.lv.now.keys (all_live_names (plan_trees (map plan_of c.args.nodes.now))) c.collect_live_columns.new.lv.keys) (c.loop-node.invariant.part c.collect_live_columns.new.lv.keys (front_at c.args.nodes.now c.loop-node.node-index c.node-item.result c.loop-node-test.true c.node-item.is c.loop-node.lv.keys c.collect_live_columns.new.lv.keys (search rules)))

pub phys_expr::collect_all-loop-node-preserved : goal.phys_expr::collect_all-loop-node-preserved
phys_expr::collect_all-loop-node-preserved t c =
    let inv = c.loop-node.invariant in
    record {
      all = names_next c.args.nodes.now c.loop-node.node-index c.node-item.result c.loop-node-test.true c.node-item.is _ c.loop-node.lv.keys c.collect_live_columns.new.lv.keys inv.all (search rules);
      part = λ now f. inv.part now (front_next c.args.nodes.now c.loop-node.node-index c.node-item.result c.loop-node-test.true c.node-item.is c.loop-node.lv.keys c.collect_live_columns.new.lv.keys now (search rules) f);
    }

pub phys_expr::collect_all-returns-clause-live : goal.phys_expr::collect_all-returns-clause-live
phys_expr::collect_all-returns-clause-live t c =
    sym (names_done c.args.nodes.now c.loop-node.node-index _ c.loop-node.lv.keys c.loop-node-test.false c.loop-node.invariant.all)
