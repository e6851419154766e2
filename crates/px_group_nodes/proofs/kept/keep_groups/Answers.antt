use Rattle.std.proofs.Common.{◌≡◌, ◌∙◌, Ok, Result, ap, map, refl, subst, sym}
use Rattle.px_column.specs.Prelude.{Answers}
use Rattle.px_value.specs.declared.error.PxError.{PxError}
use Rattle.px_frame.specs.Cell.{rows}
use Rattle.px_frame.specs.Groups.{Groups}
use Rattle.px_frame.specs.GroupsView.{groups_within, idx_group}
use Rattle.px_frame.specs.declared.groups.GroupsType.TheVariants.{Idx}
use Rattle.px_group_nodes.specs.Kept.{kept_group, kept_groups}
use Rattle.px_group_nodes.proofs.Keeping.{kept_few, kept_made, kept_short}
use Rattle.px_group_nodes.proofs.kept.keep_groups.Goals as goal

pub new-requires-clause-few : goal.new-requires-clause-few
new-requires-clause-few c =
    let gs = c.args.groups.now in
    let mask = rows c.args.mask.now.slots in
    let made : map idx_group c.in_ok-kept.kept.items ≡ map (kept_group mask) gs.groups = cc (c.in_ok-kept.ensures.answer) in
    kept_few idx_group mask gs.height gs.groups c.in_ok-kept.kept.items c.in_ok-kept.ensures.groups made

pub new-requires-clause-short : goal.new-requires-clause-short
new-requires-clause-short c =
    let gs = c.args.groups.now in
    let mask = rows c.args.mask.now.slots in
    let made : map idx_group c.in_ok-kept.kept.items ≡ map (kept_group mask) gs.groups = cc (c.in_ok-kept.ensures.answer) in
    kept_short idx_group mask gs.height gs.groups c.in_ok-kept.kept.items c.in_ok-kept.ensures.groups made

pub returns : goal.returns
returns c =
    let gs = c.args.groups.now in
    let mask = rows c.args.mask.now.slots in
    let made : map idx_group c.in_ok-kept.kept.items ≡ map (kept_group mask) gs.groups = cc (c.in_ok-kept.ensures.answer) in
    let there : c.new.result ≡ Ok (kept_groups mask gs) =
    c.new.ensures ∙ ap (λ h. groups_within h (Idx c.in_ok-kept.kept)) c.height-height.ensures ∙ kept_made idx_group mask gs.height gs.groups c.in_ok-kept.kept.items c.in_ok-kept.ensures.groups made in
    subst (λ (r : Result Groups PxError). Answers r (Ok (kept_groups mask gs))) (sym there) refl
