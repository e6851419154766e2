use Rattle.std.proofs.Common.{◌∙◌, None, Some, ap, subst}
use Rattle.px_column.specs.Prelude.{Answers}
use Rattle.px_frame.specs.Groups.{grouped}
use Rattle.px_window.proofs.Sorted.{each_once, unordered}
use Rattle.px_window.proofs.ordering.ordered_groups.Goals as goal

pub returns-in-None-clause-once : goal.returns-in-None-clause-once
returns-in-None-clause-once g c =
    let by = c.args.key.now.keys in
    let n = c.args.height in
    each_once n by None c.group_by.result (subst (Answers c.group_by.result) (ap (grouped n) c.keys-keys.ensures ∙ unordered n by) c.group_by.ensures.answer)

pub returns-in-Some-clause-once : goal.returns-in-Some-clause-once
returns-in-Some-clause-once g c =
    each_once c.args.height c.keys-keys.result.now (Some (c.in-Some.column.now, c.in-Some.options.now)) c.group_in_order.result c.group_in_order.ensures.answer
