use Rattle.std.proofs.Common.{◌≡◌, ◌+◌, map, drop}
use Rattle.serde_json.specs.View.{view}
use Rattle.px_column.specs.Kind.{kind_number}
use Rattle.px_column.specs.Prelude.{kind_of, slots_of}
use Rattle.px_document.specs.Document.{place_of}
use Rattle.px_column.specs.Option.{each}
use Rattle.px_document.specs.Form.{with_front}
use Rattle.px_document.proofs.document.place.+place.Given as goal

-- a type of lists has a larger number than the type of the items
abbrev pub decreases-read_place : goal.decreases-read_place
decreases-read_place l = kind_number (kind_of l.dtype.now)

abbrev pub decreases-read_places : goal.decreases-read_places
decreases-read_places l = kind_number (kind_of l.dtype.now) + 1

abbrev pub decreases-read_list : goal.decreases-read_list
decreases-read_list l = kind_number (kind_of l.of.now) + 2

-- what was read and what is left are all
abbrev pub invariant-read_places-loop-value : goal.invariant-read_places-loop-value
invariant-read_places-loop-value l = with_front (slots_of l.places.items) (each (place_of (kind_of l.dtype)) (map view (drop l.value-index l.values))) ≡ each (place_of (kind_of l.dtype)) (map view l.values)
