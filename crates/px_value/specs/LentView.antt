-- What a lent value stands for.
use Rattle.std.specs.Prelude.{Option, Some, None}
use Rattle.px_value.specs.Datum as d
use Rattle.px_value.specs.Datum.{Datum, Slot, slots}
use Rattle.px_value.specs.declared.value_ref.ValueRef.{ValueRef}
use Rattle.px_value.specs.declared.value_ref.ValueRef.TheVariants.{Boolean, Int, Text, Bytes, List as Nested}

-- the value that is lent
abbrev pub datum_of_ref : ValueRef → Datum
datum_of_ref (Boolean b) = d.boolean b
datum_of_ref (Int z) = d.integer z
datum_of_ref (Text s) = d.text s.now
datum_of_ref (Bytes s) = d.bytes s.now
datum_of_ref (Nested xs) = d.list (slots xs.now)

-- the place whose value is lent, a null where there is none
abbrev pub slot_of_ref : Option ValueRef → Slot
slot_of_ref None = None
slot_of_ref (Some v) = Some (datum_of_ref v)
