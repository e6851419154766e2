-- What a hash is fed for a value: a mark of its kind, and then its content.
use Rattle.std.specs.Prelude.{◌++◌, List, Some, None}
use Rattle.std.specs.Hash as fed
use Rattle.std.specs.Hash.{HashWrites}
use Rattle.px_value.specs.Datum.{Datum, boolean, integer, text, bytes, list, Slots, no_slots, absent, present, Slot, slots}

abbrev mutual
  -- a value by a mark of its kind, and then its content
  pub datum_hash : Datum → HashWrites
  datum_hash (boolean b) = fed.u8 0 ++ fed.bool b
  datum_hash (integer z) = fed.u8 1 ++ fed.i128 z
  datum_hash (text s) = fed.u8 2 ++ fed.str s
  datum_hash (bytes s) = fed.u8 3 ++ fed.slice fed.u8 s
  datum_hash (list ds) = fed.u8 4 ++ slots_hash ds

  -- each place by a mark and what is there, and a mark at the end
  pub slots_hash : Slots → HashWrites
  slots_hash no_slots = fed.u8 0
  slots_hash (absent ds) = fed.u8 1 ++ slots_hash ds
  slots_hash (present d ds) = fed.u8 2 ++ (datum_hash d ++ slots_hash ds)

-- a place by a mark, and then the value where there is one
abbrev pub slot_hash : Slot → HashWrites
slot_hash None = fed.u8 1
slot_hash (Some d) = fed.u8 2 ++ datum_hash d

-- a row place by place
abbrev pub row_hash : List Slot → HashWrites
row_hash xs = slots_hash (slots xs)
