use Rattle.std.proofs.Common.{◌≡◌, ◌++◌, map}
use Rattle.std.specs.List.{list_all}
use Rattle.px_frame.specs.Unsigned.{names_place, place_at}
use Rattle.px_frame.proofs.unsigned.places_at.Given as goal

abbrev pub invariant-loop-slot : goal.invariant-loop-slot
invariant-loop-slot l = record {
  can : goal.iterator-loop-slot.can_next l.slot-iterator;
  ends : goal.iterator-loop-slot.is_finite l.slot-iterator;
  all : list_all (names_place l.len) l.index.slots ≡ list_all (names_place l.len) l.slot-iterator;
  places : map (place_at l.len) l.index.slots ≡ l.places.items ++ map (place_at l.len) l.slot-iterator;
}
