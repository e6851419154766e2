use Rattle.std.proofs.Common.{◌≡◌, ◌∙◌, true, false, Global, IfSome, List, Option, Vec, ℕ, ap, arith, map, refl, subst, to_z, of_z}
use Rattle.std.specs.Int.{w128}
use Rattle.std.proofs.lemmas.Int.{ints}
use Rattle.px_frame.specs.Groups.{group_of}
use Rattle.px_frame.specs.GroupsView.{all_end_within, idx_group, slice_group}
use Rattle.px_frame.specs.declared.groups.GroupsType.TheVariants.{Idx, Slice}
use Rattle.px_group_nodes.specs.Windows.{windows_of}
use Rattle.px_group_nodes.proofs.Windows.{groups_rows, groups_there, lists_below, lists_few, lists_short}
use Rattle.px_group_nodes.proofs.group_windows.window_groups.Goals as goal

pub new-requires-clause-few : goal.new-requires-clause-few
new-requires-clause-few c =
    let o = to_z w128 (of_z w128 c.args.offset) in
    let made = subst (λ (q : Option (Vec (List ℕ) Global)). IfSome q (λ v. map slice_group v.items ≡ map group_of (windows_of o c.args.limit c.args.groups.now))) c.in-Some.is c.in_ok-slices.ensures.rows in
    lists_few slice_group o c.args.limit c.args.groups.now c.len.ensures.groups c.in-Some.slices.items made

pub returns-in-Some-clause-rows : goal.returns-in-Some-clause-rows
returns-in-Some-clause-rows c =
    let z : to_z w128 (of_z w128 c.args.offset) ≡ c.args.offset = omega (arith, ints) in
    let o = to_z w128 (of_z w128 c.args.offset) in
    let made = subst (λ (q : Option (Vec (List ℕ) Global)). IfSome q (λ v. map slice_group v.items ≡ map group_of (windows_of o c.args.limit c.args.groups.now))) c.in-Some.is c.in_ok-slices.ensures.rows in
    let within = subst (λ (q : Option (Vec (List ℕ) Global)). IfSome q (λ v. all_end_within c.args.groups.now.height v.items ≡ true)) c.in-Some.is c.in_ok-slices.ensures.within in
    let fits = ap (λ h. all_end_within h c.in-Some.slices.items) c.height.ensures ∙ within in
    groups_rows slice_group c.args.offset c.args.limit c.args.groups.now c.len.ensures.groups c.in-Some.slices.items (made ∙ ap (λ q. map group_of (windows_of q c.args.limit c.args.groups.now)) z) (Slice c.in-Some.slices false) c.new.result c.height.result fits refl c.new.ensures

pub new-requires-2-clause-few : goal.new-requires-2-clause-few
new-requires-2-clause-few c =
    lists_few idx_group (to_z w128 (of_z w128 c.args.offset)) c.args.limit c.args.groups.now c.len.ensures.groups c.in_ok-lists.lists.items c.in_ok-lists.ensures.rows

pub new-requires-2-clause-short : goal.new-requires-2-clause-short
new-requires-2-clause-short c =
    lists_short idx_group (to_z w128 (of_z w128 c.args.offset)) c.args.limit c.args.groups.now c.len.ensures.groups c.in_ok-lists.lists.items c.in_ok-lists.ensures.rows

pub returns-clause-rows : goal.returns-clause-rows
returns-clause-rows c =
    let z : to_z w128 (of_z w128 c.args.offset) ≡ c.args.offset = omega (arith, ints) in
    let made = c.in_ok-lists.ensures.rows ∙ ap (λ q. map group_of (windows_of q c.args.limit c.args.groups.now)) z in
    let fits = lists_below idx_group c.args.offset c.args.limit c.args.groups.now c.len.ensures.groups c.in_ok-lists.lists.items made c.height-2.result c.height-2.ensures in
    groups_rows idx_group c.args.offset c.args.limit c.args.groups.now c.len.ensures.groups c.in_ok-lists.lists.items made (Idx c.in_ok-lists.lists) c.new-2.result c.height-2.result fits refl c.new-2.ensures

pub returns-clause-refused : goal.returns-clause-refused
returns-clause-refused c =
    let z : to_z w128 (of_z w128 c.args.offset) ≡ c.args.offset = omega (arith, ints) in
    let made = c.in_ok-lists.ensures.rows ∙ ap (λ q. map group_of (windows_of q c.args.limit c.args.groups.now)) z in
    let fits = lists_below idx_group c.args.offset c.args.limit c.args.groups.now c.len.ensures.groups c.in_ok-lists.lists.items made c.height-2.result c.height-2.ensures in
    groups_there idx_group c.args.offset c.args.limit c.args.groups.now c.len.ensures.groups c.in_ok-lists.lists.items made (Idx c.in_ok-lists.lists) c.new-2.result c.height-2.result fits refl c.new-2.ensures
