-- What contracts see of an array: the type of its values and its places.
use Rattle.std.specs.Prelude.{List, refl}
use Rattle.std.specs.Coded.{Coded, code_by, coded×}
use Rattle.px_value.specs.Datum.{Slot}
use Rattle.px_value.specs.DatumCode.{coded_slots}
use Rattle.px_value.specs.Kind.{Kind, coded_kind}

-- the type of some values, and their places
pub record Places : Type 0 where
  pub kind : Kind
  pub slots : List Slot

-- arrays are told apart by their types and places
abbrev pub coded_places : Coded Places
coded_places = code_by (Kind × List Slot) (coded× coded_kind coded_slots) (λ s. (s.kind, s.slots)) (λ p. record { kind = p.0; slots = p.1 }) (λ _. refl)
