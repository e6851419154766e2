use Rattle.std.proofs.Common.{codes, sym}
use Rattle.serde_json.specs.View.{view}
use Rattle.px_document.proofs.StepForms.{other_step, step_keyed, under_select, under_filter, under_group}
use Rattle.px_document.proofs.document.step.read_step.Goals as goal

pub returns-in-select : goal.returns-in-select
returns-in-select c =
    let member = sym (rw c.in_ok-key.ensures.ok_part at c.only_member.ensures) in
    step_keyed c.read_select.result (codes "select") c.in_ok-key.key.now (view c.args.value.now) (view c.in_ok-key.value.now) _ member c.in-select.is
    (under_select (view c.in_ok-key.value.now)) c.read_select.ensures

pub returns-in-filter : goal.returns-in-filter
returns-in-filter c =
    let member = sym (rw c.in_ok-key.ensures.ok_part at c.only_member.ensures) in
    step_keyed c.read_filter.result (codes "filter") c.in_ok-key.key.now (view c.args.value.now) (view c.in_ok-key.value.now) _ member c.in-filter.is
    (under_filter (view c.in_ok-key.value.now)) c.read_filter.ensures

pub returns-in-group : goal.returns-in-group
returns-in-group c =
    let member = sym (rw c.in_ok-key.ensures.ok_part at c.only_member.ensures) in
    step_keyed c.read_group.result (codes "group") c.in_ok-key.key.now (view c.args.value.now) (view c.in_ok-key.value.now) _ member c.in-group.is
    (under_group (view c.in_ok-key.value.now)) c.read_group.ensures

pub returns-in_default : goal.returns-in_default
returns-in_default c =
    let member = sym (rw c.in_ok-key.ensures.ok_part at c.only_member.ensures) in
    other_step c.in_ok-key.key.now (view c.args.value.now) (view c.in_ok-key.value.now) member c.in_default.not-select c.in_default.not-filter c.in_default.not-group
