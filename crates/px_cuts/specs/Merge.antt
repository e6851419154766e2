-- Whether some row is true, as a reduction.
use Rattle.std.specs.Prelude.{Bool, false, List, Some}
use Rattle.std.specs.List.{list_any}
use Rattle.px_column.specs.Prelude.{boolean, Slot}

-- a place that is true; a null is not
abbrev pub is_true : Slot → Bool
is_true (Some (boolean b)) = b
is_true _ = false

-- whether some place is true, false without one
abbrev pub any_slot : List Slot → Slot
any_slot xs = Some (boolean (list_any is_true xs))
