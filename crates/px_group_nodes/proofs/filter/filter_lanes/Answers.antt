use Rattle.std.proofs.Common.{◌≡◌, ◌∙◌, ap, sym, true}
use Rattle.px_column.specs.Operator.{is_boolean_kind}
use Rattle.px_context.specs.Context.{cell_kind}
use Rattle.px_lanes.specs.Lane.{lane_of}
use Rattle.px_lanes.proofs.Stepping.{if_answered}
use Rattle.px_group_nodes.specs.Filter.{IsFiltered}
use Rattle.px_group_nodes.specs.Kept.{kept_flat}
use Rattle.px_group_nodes.proofs.Masking.{untouched_filtered}
use Rattle.px_group_nodes.proofs.filter.filter_lanes.Goals as goal

pub returns-then-is_untouched-clause-made : goal.returns-then-is_untouched-clause-made
returns-then-is_untouched-clause-made g c =
    let a = c.args.input in
    let by = c.args.by in
    let untouched : a.untouched ≡ true = sym c.is_untouched.ensures.mark ∙ c.if-is_untouched.true in
    let truths : is_boolean_kind (cell_kind by) ≡ true = ap is_boolean_kind (sym c.cell_type.ensures) ∙ sym c.is_boolean.ensures ∙ c.if-not-is_boolean.false in
    if_answered c.filter_untouched.result (kept_flat (lane_of by).cell a) (IsFiltered a by) c.filter_untouched.ensures.answer
    (untouched_filtered a by c.requires.paired c.has_lane.ensures.context c.has_lane-2.ensures.context untouched c.requires.mask truths c.has_lane.ensures.groups)
