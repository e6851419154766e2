-- A column that holds the same at each row.
use Rattle.std.specs.Prelude.{ℕ, List, replicate}
use Rattle.px_value.specs.Datum.{Slot}
use Rattle.px_value.specs.Kind.{Kind}
use Rattle.px_value.specs.Series.{Series}

-- n rows, each of which holds s
abbrev pub repeated : List ℕ → Kind → Slot → ℕ → Series
repeated name kind s n = record { name = name; kind = kind; slots = replicate n s }
