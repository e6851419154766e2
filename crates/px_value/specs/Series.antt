-- What contracts see of a column: its name, its type and its places.
use Rattle.std.specs.Prelude.{◌≡◌, ℕ, ◌^◌, ◌<◌, true, List, length, refl, slice_get}
use Rattle.std.specs.Option.{option_and_then}
use Rattle.std.specs.Coded.{Coded, code_by, coded×, coded_ℕ, coded_list}
use Rattle.px_value.specs.Datum.{Slot}
use Rattle.px_value.specs.DatumCode.{coded_slots}
use Rattle.px_value.specs.Kind.{Kind, coded_kind, slots_fit}

-- a column: its name, its type and its places
pub record Series : Type 0 where
  pub name : List ℕ
  pub kind : Kind
  pub slots : List Slot

-- what stands at a row, with nothing outside
abbrev pub slot_at : List Slot → ℕ → Slot
slot_at xs i = option_and_then (λ s. s) (slice_get xs i)

-- each place fits the type, and there are fewer than 2^32 of them
pub record IsColumn (kind : Kind) (xs : List Slot) : Type 0 where
  pub fit : slots_fit kind xs ≡ true
  pub short : length xs < 2 ^ 32

-- columns are told apart by their names, types and places
abbrev pub coded_series : Coded Series
coded_series =
    code_by (List ℕ × (Kind × List Slot)) (coded× (coded_list coded_ℕ) (coded× coded_kind coded_slots))
    (λ s. (s.name, (s.kind, s.slots))) (λ p. record { name = p.0; kind = p.1.0; slots = p.1.1 }) (λ _. refl)
