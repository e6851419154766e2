use Rattle.std.proofs.Common.{◌≡◌, ap, length, slice_index, subst, sym}
use Rattle.std.specs.List.{range_with_len}
use Rattle.std.proofs.lemmas.List.FromFn.{length-range_with_len}
use Rattle.px_frame.specs.GroupsView.{lent_group}
use Rattle.px_frame.specs.declared.groups.GroupsIndicator.{GroupsIndicator}
use Rattle.px_context.proofs.piece.first_of.Goals as goal

pub returns-else-range-eq0-clause-rows : goal.returns-else-range-eq0-clause-rows
returns-else-range-eq0-clause-rows c =
    let first = slice_index c.in-Slice.range 0 in
    let count = length-range_with_len first (slice_index c.in-Slice.range 1) in
    subst (λ (g : GroupsIndicator). (lent_group g).rows ≡ range_with_len first (length (lent_group g).rows)) (sym c.in-Slice.is) (ap (range_with_len first) (sym count))
