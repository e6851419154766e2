use Rattle.std.proofs.Common.{◌≡◌, ◌∙◌, Ok, Result, ap, map, refl, subst, sym}
use Rattle.px_column.specs.Prelude.{Answers}
use Rattle.px_value.specs.declared.error.PxError.{PxError}
use Rattle.px_frame.specs.Groups.{Groups}
use Rattle.px_frame.specs.GroupsView.{groups_within, idx_group}
use Rattle.px_frame.specs.declared.groups.GroupsType.TheVariants.{Idx}
use Rattle.px_window.specs.Key.{rows_ordered}
use Rattle.px_window.proofs.Sorted.{ordered_few, ordered_made, ordered_short}
use Rattle.px_window.proofs.ordering.order_groups.Goals as goal

pub new-requires-clause-few : goal.new-requires-clause-few
new-requires-clause-few g c =
    let made : map idx_group c.in_ok-ordered.ordered.items ≡ map (rows_ordered c.args.column.now c.args.options) c.args.groups.now.groups = cc (c.in_ok-ordered.ensures.answer) in
    ordered_few c.args.column.now c.args.options c.args.groups.now.height c.args.groups.now.groups c.in_ok-ordered.ordered.items c.in_ok-ordered.ensures.groups made

pub new-requires-clause-short : goal.new-requires-clause-short
new-requires-clause-short g c =
    let made : map idx_group c.in_ok-ordered.ordered.items ≡ map (rows_ordered c.args.column.now c.args.options) c.args.groups.now.groups = cc (c.in_ok-ordered.ensures.answer) in
    ordered_short c.args.column.now c.args.options c.args.groups.now.height c.args.groups.now.groups c.in_ok-ordered.ordered.items c.in_ok-ordered.ensures.groups made

pub returns-clause-answer : goal.returns-clause-answer
returns-clause-answer g c =
    let s = c.args.column.now in
    let o = c.args.options in
    let gs = c.args.groups.now in
    let made : map idx_group c.in_ok-ordered.ordered.items ≡ map (rows_ordered s o) gs.groups = cc (c.in_ok-ordered.ensures.answer) in
    let whole : Groups = record { height = gs.height; groups = map (rows_ordered s o) gs.groups } in
    let there : c.new.result ≡ Ok whole =
    c.new.ensures ∙ ap (λ h. groups_within h (Idx c.in_ok-ordered.ordered)) c.height-height.ensures ∙ ordered_made s o gs.height gs.groups c.in_ok-ordered.ordered.items c.in_ok-ordered.ensures.groups made in
    subst (λ (r : Result Groups PxError). Answers r (Ok whole)) (sym there) refl
