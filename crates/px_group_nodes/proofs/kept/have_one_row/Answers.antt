use Rattle.std.proofs.Common.{◌≡◌, true, false, arith}
use Rattle.std.proofs.lemmas.Bool.Decides.{nat_tests}
use Rattle.px_frame.specs.GroupsView.{lent_group}
use Rattle.px_group_nodes.specs.Kept.{has_one_row}
use Rattle.px_group_nodes.proofs.Keeping.{one_more, one_other}
use Rattle.px_group_nodes.proofs.kept.have_one_row.Goals as goal

pub returns-then-len-ne1 : goal.returns-then-len-ne1
returns-then-len-ne1 c =
    let p = lent_group c.group.result in
    let other : has_one_row p ≡ false = grind (arith, nat_tests, c.len.ensures, c.if-len-ne1.true) in
    one_other c.args.groups.now.groups c.loop-index.index p c.group.ensures.group c.loop-index.invariant other

pub loop-index-preserved : goal.loop-index-preserved
loop-index-preserved c =
    let p = lent_group c.group.result in
    let one : has_one_row p ≡ true = grind (arith, nat_tests, c.len.ensures, c.if-len-ne1.false) in
    one_more c.args.groups.now.groups c.loop-index.index p c.group.ensures.group c.loop-index.invariant one
