use Rattle.std.proofs.Common.{◌≡◌, map, slice_index, take}
use Rattle.px_window.proofs.ordering.rows_at.Given as goal

abbrev pub invariant-loop-place : goal.invariant-loop-place
invariant-loop-place l = l.found.items ≡ map (slice_index l.rows) (take l.place-index l.places)
