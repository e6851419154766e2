use Rattle.std.proofs.Common.{◌≡◌, ◌∙◌, ap, arith, map, to_z, of_z}
use Rattle.std.specs.Int.{w128}
use Rattle.std.proofs.lemmas.Int.{ints}
use Rattle.std.proofs.lemmas.List.{length-map}
use Rattle.px_frame.specs.Groups.{group_of}
use Rattle.px_frame.specs.GroupsView.{all_end_within, slice_group}
use Rattle.px_group_nodes.specs.Windows.{windows_of}
use Rattle.px_group_nodes.proofs.Windows.{ends_more, one_taken, taken_all, windows_count}
use Rattle.px_group_nodes.proofs.group_windows.window_slices.Goals as goal

pub loop-index-preserved : goal.loop-index-preserved
loop-index-preserved c =
    let ws = windows_of (to_z w128 (of_z w128 c.args.offset)) c.args.limit c.args.groups.now in
    let items = c.loop-index.slices.items in
    record {
      rows = ap (map slice_group) c.in_ok-push.ensures.items ∙ one_taken slice_group (map group_of ws) items c.loop-index.index c.in-Some.slice c.loop-index.invariant.rows c.in-Some.ensures.rows;
      within = ap (all_end_within c.args.groups.now.height) c.in_ok-push.ensures.items ∙ ends_more c.args.groups.now.height items c.in-Some.slice c.loop-index.invariant.within c.in-Some.ensures.within;
    }

pub returns-clause-rows : goal.returns-clause-rows
returns-clause-rows c =
    let z : to_z w128 (of_z w128 c.args.offset) ≡ c.args.offset = omega (arith, ints) in
    let ws = windows_of (to_z w128 (of_z w128 c.args.offset)) c.args.limit c.args.groups.now in
    let many = length-map ws group_of ∙ windows_count (to_z w128 (of_z w128 c.args.offset)) c.args.limit c.args.groups.now in
    c.loop-index.invariant.rows ∙ taken_all (map group_of ws) c.loop-index.index (omega (arith, many, c.len-index-end.ensures.len)) ∙ ap (λ q. map group_of (windows_of q c.args.limit c.args.groups.now)) z
