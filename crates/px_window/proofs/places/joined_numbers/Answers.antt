use Rattle.std.proofs.Common.{◌∙◌, ◌++◌, ap, replicate}
use Rattle.px_frame.specs.GroupsView.{lent_group}
use Rattle.px_window.proofs.Joining.{numbers_more}
use Rattle.px_window.proofs.places.joined_numbers.Goals as goal

pub loop-index-preserved : goal.loop-index-preserved
loop-index-preserved c =
    let made = c.in_ok-push_number.ensures.ok ∙ ap (λ n. c.loop-index.numbers.items ++ replicate n c.loop-index.index) c.len.ensures in
    numbers_more c.args.parts.now.groups c.loop-index.index (lent_group c.group.result) c.loop-index.numbers.items _ _ c.group.ensures.group made c.loop-index.invariant
