-- What a value of the program stands for.
use Rattle.std.specs.Prelude.{List, Option, Some, None, map}
use Rattle.px_value.specs.Datum as d
use Rattle.px_value.specs.Datum.{Datum, Slot, slots}
use Rattle.px_value.specs.declared.value.Value.{Value}
use Rattle.px_value.specs.declared.value.Value.TheVariants.{Boolean, Int, Text, Bytes, List as Nested}

-- the value that a `Value` stands for
abbrev pub datum_of : Value → Datum
datum_of (Boolean b) = d.boolean b
datum_of (Int z) = d.integer z
datum_of (Text s) = d.text s
datum_of (Bytes s) = d.bytes s
datum_of (Nested xs) = d.list (slots xs)

-- the place that a `Value` stands for, a null where there is none
abbrev pub slot_of : Option Value → Slot
slot_of None = None
slot_of (Some v) = Some (datum_of v)

-- the places that some of them stand for
abbrev pub slots_of : List (Option Value) → List Slot
slots_of xs = map slot_of xs
