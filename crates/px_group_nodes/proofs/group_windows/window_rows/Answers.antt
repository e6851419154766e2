use Rattle.std.proofs.Common.{◌≡◌, ◌∙◌, ap, arith, drop, slice_get, sym, take, to_z, of_z}
use Rattle.std.specs.Int.{w128}
use Rattle.std.proofs.lemmas.Int.{ints}
use Rattle.px_frame.specs.GroupsView.{lent_group}
use Rattle.px_group_nodes.specs.Windows.{windows_of}
use Rattle.px_group_nodes.proofs.Windows.{window_taken}
use Rattle.px_group_nodes.proofs.group_windows.window_rows.Goals as goal

pub returns-clause-rows : goal.returns-clause-rows
returns-clause-rows c =
    let z : to_z w128 (of_z w128 c.args.offset) ≡ c.args.offset = omega (arith, ints) in
    let o = to_z w128 (of_z w128 c.args.offset) in
    let w = c.slice_window-start.result in
    let p = lent_group c.group-group.result in
    let end : c.loop-place.place ≡ w.1 = omega arith in
    ap (λ q. slice_get (windows_of q c.args.limit c.args.groups.now) c.args.index) (sym z)
    ∙ window_taken o c.args.limit c.args.groups.now c.args.index p w c.len.result c.loop-place.rows.items c.group-group.ensures.group c.slice_window-start.ensures.value c.len.ensures
    (c.loop-place.invariant ∙ ap (λ n. take n (drop w.0 p.rows)) end)
