use Rattle.std.proofs.Common.{◌≡◌, ◌∙◌, ◌<◌, ◌^◌, ap, arith, length, map, nat_lt, slice_get, slice_index, sym, to_z, of_z}
use Rattle.std.specs.Int.{w128}
use Rattle.std.proofs.lemmas.Bool.Decides.{nat_tests}
use Rattle.std.proofs.lemmas.Int.{ints}
use Rattle.px_value.proofs.FitLaws.{both}
use Rattle.px_frame.specs.Frame.{are_below}
use Rattle.px_frame.specs.Groups.{group_of}
use Rattle.px_frame.specs.GroupsView.{slice_group}
use Rattle.px_group_nodes.specs.Windows.{windows_of}
use Rattle.px_group_nodes.proofs.Windows.{no_slice_at, slice_at, slice_ends}
use Rattle.px_group_nodes.proofs.group_windows.window_slice.Goals as goal

pub overflow_add-result : goal.overflow_add-result
overflow_add-result c =
    let r = c.in-Slice.range in
    let w = c.slice_window-start.result in
    let some : 0 < w.1 = grind (arith, nat_tests, c.if-count-eq0.false) in
    let below = (both (are_below (2 ^ 32) (slice_group r).rows) (nat_lt (length (slice_group r).rows) (2 ^ 32)) c.in-Slice.ensures.bounded).0 in
    let end = slice_ends (2 ^ 32) (slice_index r 0) (slice_index r 1) w.0 w.1 below c.slice_window-start.ensures.within some in
    omega (arith, end, some)

pub returns-then-count-eq0-clause-rows : goal.returns-then-count-eq0-clause-rows
returns-then-count-eq0-clause-rows c =
    let z : to_z w128 (of_z w128 c.args.offset) ≡ c.args.offset = omega (arith, ints) in
    ap (λ q. slice_get (map group_of (windows_of q c.args.limit c.args.groups.now)) c.args.index) (sym z)
    ∙ no_slice_at (to_z w128 (of_z w128 c.args.offset)) c.args.limit c.args.groups.now c.args.index c.in-Slice.range c.slice_window-start.result c.in-Slice.ensures.group c.slice_window-start.ensures.value
    c.slice_window-start.ensures.within (grind (arith, nat_tests, c.if-count-eq0.true))

pub returns-else-count-eq0-clause-rows : goal.returns-else-count-eq0-clause-rows
returns-else-count-eq0-clause-rows c =
    let z : to_z w128 (of_z w128 c.args.offset) ≡ c.args.offset = omega (arith, ints) in
    let some : 0 < c.slice_window-start.result.1 = grind (arith, nat_tests, c.if-count-eq0.false) in
    ap (λ q. slice_get (map group_of (windows_of q c.args.limit c.args.groups.now)) c.args.index) (sym z)
    ∙ slice_at (to_z w128 (of_z w128 c.args.offset)) c.args.limit c.args.groups.now c.args.index c.in-Slice.range c.slice_window-start.result c.in-Slice.ensures.group c.slice_window-start.ensures.value
    c.slice_window-start.ensures.within some

pub returns-else-count-eq0-clause-within : goal.returns-else-count-eq0-clause-within
returns-else-count-eq0-clause-within c =
    let r = c.in-Slice.range in
    let w = c.slice_window-start.result in
    let some : 0 < w.1 = grind (arith, nat_tests, c.if-count-eq0.false) in
    slice_ends c.args.groups.now.height (slice_index r 0) (slice_index r 1) w.0 w.1 c.in-Slice.ensures.below c.slice_window-start.ensures.within some
