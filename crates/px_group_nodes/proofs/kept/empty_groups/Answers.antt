use Rattle.std.proofs.Common.{◌≡◌, ◌∙◌, ℕ, [], ◌∷◌, ap, arith, false, length, refl, replicate}
use Rattle.px_frame.specs.GroupsView.{groups_within}
use Rattle.px_frame.specs.declared.groups.GroupsType.TheVariants.{Slice}
use Rattle.px_group_nodes.proofs.Keeping.{none_few, none_made}
use Rattle.px_group_nodes.proofs.kept.empty_groups.Goals as goal

pub new-requires-clause-few : goal.new-requires-clause-few
new-requires-clause-few c = none_few c.loop.counter c.args.groups.now.height c.loop.slices.items c.loop.invariant (omega arith)

pub returns : goal.returns
returns c =
    let n = length c.args.groups.now.groups in
    let many : c.loop.counter ≡ n = omega arith in
    let made = c.loop.invariant ∙ ap (λ (m : ℕ). replicate m (0 ∷ 0 ∷ [])) many in
    rw (c.new.ensures ∙ ap (λ h. groups_within h (Slice c.loop.slices false)) c.height.ensures ∙ none_made n c.args.groups.now.height c.loop.slices.items made) refl
