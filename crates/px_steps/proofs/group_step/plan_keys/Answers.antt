use Rattle.std.proofs.Common.{Some, ap, map, refl}
use Rattle.std.proofs.lemmas.Result.{err_from_is_err_and}
use Rattle.px_expr.specs.NodeView.{plan_of}
use Rattle.px_expr.specs.Plan.{planned_over}
use Rattle.px_tree.specs.View.{tree}
use Rattle.px_steps.specs.Finds.{typed_key_refusals}
use Rattle.px_steps.proofs.Looped.{all_listed, made_next, made_start, none_found}
use Rattle.px_steps.proofs.Members.{first_here, sound_next}
use Rattle.px_steps.proofs.group_step.plan_keys.Goals as goal

pub returns-in_err-plan_key : goal.returns-in_err-plan_key
returns-in_err-plan_key c =
    let p = err_from_is_err_and c.from_residual-in_err-plan_key.result c.from_residual-in_err-plan_key.ensures.1 in
    rw (p.1, p.2)
    (first_here tree c.args.keys.now c.loop-key.key-index c.key-item.result c.loop-key-test.true c.key-item.is (typed_key_refusals c.args.schema.now.value) c.in_err-plan_key.field-0.0 c.loop-key.invariant.refused c.in_err-plan_key.ensures)

pub returns-in_err-push : goal.returns-in_err-push
returns-in_err-push c =
    let p = err_from_is_err_and c.from_residual-in_err-push.result c.from_residual-in_err-push.ensures.1 in
    rw (p.1, p.2) tt

pub loop-key-init : goal.loop-key-init
loop-key-init c = record {
  refused = refl;
  made = made_start plan_of c.in_ok-nodes.nodes.items (map (planned_over c.args.schema.now.value) (map tree c.args.keys.now)) c.in_ok-nodes.ensures.items;
}

pub loop-key-preserved : goal.loop-key-preserved
loop-key-preserved c =
    let inv = c.loop-key.invariant in
    let keys = c.args.keys.now in
    let i = c.loop-key.key-index in
    let k = c.key-item.result in
    let scope = c.args.schema.now.value in
    record {
      refused = sound_next tree keys i k c.loop-key-test.true c.key-item.is (typed_key_refusals scope) _ inv.refused c.in_ok-plan_key.ensures.0;
      made = made_next tree keys i k c.loop-key-test.true c.key-item.is plan_of (planned_over scope) c.loop-key.nodes.items c.push.new.self.items c.in_ok-plan_key.field-0 _ inv.made c.in_ok-plan_key.ensures.1 c.in_ok-push.ensures.items;
    }

pub returns : goal.returns
returns c =
    let inv = c.loop-key.invariant in
    let keys = c.args.keys.now in
    let i = c.loop-key.key-index in
    let scope = c.args.schema.now.value in (
      none_found tree keys i c.loop-key-test.false (typed_key_refusals scope) _ inv.refused,
      ap Some (all_listed tree keys i c.loop-key-test.false plan_of (planned_over scope) c.loop-key.nodes.items _ inv.made),
    )
