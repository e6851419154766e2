use Rattle.std.proofs.Common.{◌≡◌, ◌∙◌, Some, ap, arith, map, option_map, sym, to_z, of_z}
use Rattle.std.specs.Int.{w128}
use Rattle.std.proofs.lemmas.Int.{ints}
use Rattle.std.proofs.lemmas.List.{length-map}
use Rattle.std.proofs.lemmas.Option.{slice_get-map}
use Rattle.px_frame.specs.Groups.{first_row, group_of}
use Rattle.px_frame.specs.GroupsView.{idx_group}
use Rattle.px_group_nodes.specs.Windows.{windows_of}
use Rattle.px_group_nodes.proofs.Windows.{group_at, one_taken, taken_all, windows_count}
use Rattle.px_group_nodes.proofs.group_windows.window_lists.Goals as goal

pub loop-index-preserved : goal.loop-index-preserved
loop-index-preserved c =
    let o = to_z w128 (of_z w128 c.args.offset) in
    let ws = windows_of o c.args.limit c.args.groups.now in
    let rows = c.in_ok-rows.rows.items in
    let first : c.first_row-first.result ≡ first_row rows = c.first_row-first.ensures ∙ ap first_row c.as_slice.ensures in
    ap (map idx_group) c.in_ok-push.ensures.items
    ∙ one_taken idx_group (map group_of ws) c.loop-index.lists.items c.loop-index.index (c.first_row-first.result, c.in_ok-rows.rows) c.loop-index.invariant
    (slice_get-map group_of ws c.loop-index.index ∙ ap (option_map group_of) c.in_ok-rows.ensures.rows ∙ ap (λ n. Some (group_at n rows)) (sym first))

pub returns-clause-rows : goal.returns-clause-rows
returns-clause-rows c =
    let z : to_z w128 (of_z w128 c.args.offset) ≡ c.args.offset = omega (arith, ints) in
    let o = to_z w128 (of_z w128 c.args.offset) in
    let ws = windows_of o c.args.limit c.args.groups.now in
    let many = length-map ws group_of ∙ windows_count o c.args.limit c.args.groups.now in
    c.loop-index.invariant ∙ taken_all (map group_of ws) c.loop-index.index (omega (arith, many, c.len-index-end.ensures.len)) ∙ ap (λ q. map group_of (windows_of q c.args.limit c.args.groups.now)) z
