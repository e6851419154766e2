-- An integer that may be missing, as the row of one column that holds it.
use Rattle.std.specs.Prelude.{pos, List, [], ◌∷◌, Some, None}
use Rattle.std.specs.Hash as fed
use Rattle.std.specs.Hash.{HashWrites}
use Rattle.px_value.specs.Datum.{Slot, integer}
use Rattle.px_column.specs.declared.number_key.Number.{Number}
use Rattle.px_column.specs.declared.number_key.Number.TheVariants.{Missing, Natural, Negative}

-- the row that holds a number
abbrev pub number_row : Number → List Slot
number_row Missing = None ∷ []
number_row (Natural n) = Some (integer (pos n)) ∷ []
number_row (Negative z) = Some (integer z) ∷ []

-- what a hash is fed for such a row: its integer, or a mark for a null
abbrev pub number_hash : List Slot → HashWrites
number_hash (Some (integer z) ∷ xs) = fed.i128 z
number_hash _ = fed.u8 0
