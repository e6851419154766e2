use Rattle.std.proofs.Common.{◌≡◌, ◌∙◌, Ok, Result, arith, false, length, map, subst, sym}
use Rattle.px_column.specs.Prelude.{Answers, is_list_kind}
use Rattle.px_value.specs.declared.error.PxError.{PxError}
use Rattle.px_frame.specs.Groups.{Groups}
use Rattle.px_window.specs.Key.{rows_ordered}
use Rattle.px_window.proofs.Sorted.{grouped_height, ordered_from}
use Rattle.px_window.proofs.ordering.group_in_order.Goals as goal

pub returns-clause-answer : goal.returns-clause-answer
returns-clause-answer g c =
    let s = c.args.column.now in
    let o = c.args.options in
    let by = c.args.keys.now in
    let n = c.args.height in
    let gs = c.in_ok-groups.groups in
    let kind : is_list_kind s.kind ≡ false = cc (c.is_list.ensures, c.dtype.ensures) in
    let long : length s.slots ≡ n = omega (arith, c.len.ensures) in
    let made = ordered_from n by (s, o) gs kind long c.in_ok-groups.ensures.answer in
    let there = (λ i. Ok (record { height = grouped_height n by gs c.in_ok-groups.ensures.answer i; groups = map (rows_ordered s o) gs.groups })) ∙ sym made in
    subst (λ (r : Result Groups PxError). Answers c.order_groups.result r) there c.order_groups.ensures.answer
