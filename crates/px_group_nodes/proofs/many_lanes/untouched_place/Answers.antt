use Rattle.std.proofs.Common.{◌∙◌, sym}
use Rattle.px_group_nodes.proofs.ManyLanes.{untouched_read}
use Rattle.px_group_nodes.proofs.many_lanes.untouched_place.Goals as goal

pub returns-then-is_untouched-clause-mark : goal.returns-then-is_untouched-clause-mark
returns-then-is_untouched-clause-mark c = λ _. untouched_read c.args.inputs.now c.loop-place.place c.index-inputs-place.result c.loop-place-test.true c.index-inputs-place.is (sym c.is_untouched.ensures.mark ∙ c.if-is_untouched.true)
