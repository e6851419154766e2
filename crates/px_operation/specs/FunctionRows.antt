-- What functions of slots make of small columns: nulls, empty lists, shifts and slices past both ends.
use Rattle.std.specs.Prelude.{◌≡◌, pos, negsuc, List, [], ◌∷◌, Some, None}
use Rattle.px_value.specs.Datum.{Slot}
use Rattle.px_operation.specs.Function.{is_null_slot, is_not_null_slot, not_slot, between_slot, in_slot, shifted, present_slots, exploded, slice_window, window_of}
use Rattle.px_value.specs.Kind.{int64s}
use Rattle.px_value.specs.Rows.{num, yes, no, gone, list_slot}
use Rattle.px_value.specs.declared.closed_interval.ClosedInterval.TheVariants as ends

-- the rows 1 null 3
abbrev pub three : List Slot
three = num 1 ∷ gone ∷ num 3 ∷ []

-- functions of single places: nulls, truths, both ends of an interval, membership
pub record SlotFunctionRows : Type 0 where
  pub null : is_null_slot gone ≡ yes
  pub null_not : is_null_slot (num 0) ≡ no
  pub there : is_not_null_slot (num 0) ≡ yes
  pub there_not : is_not_null_slot gone ≡ no
  pub not_yes : not_slot yes ≡ no
  pub not_no : not_slot no ≡ yes
  pub not_null : not_slot gone ≡ gone
  pub low_of_both : between_slot int64s ends.Both (num 2) (num 2) (num 4) ≡ yes
  pub high_of_both : between_slot int64s ends.Both (num 4) (num 2) (num 4) ≡ yes
  pub low_of_left : between_slot int64s ends.Left (num 2) (num 2) (num 4) ≡ yes
  pub high_of_left : between_slot int64s ends.Left (num 4) (num 2) (num 4) ≡ no
  pub low_of_right : between_slot int64s ends.Right (num 2) (num 2) (num 4) ≡ no
  pub high_of_right : between_slot int64s ends.Right (num 4) (num 2) (num 4) ≡ yes
  pub low_of_none : between_slot int64s ends.None (num 2) (num 2) (num 4) ≡ no
  pub high_of_none : between_slot int64s ends.None (num 4) (num 2) (num 4) ≡ no
  pub inside : between_slot int64s ends.None (num 3) (num 2) (num 4) ≡ yes
  pub null_value : between_slot int64s ends.Both gone (num 2) (num 4) ≡ gone
  pub past_null_low : between_slot int64s ends.Both (num 5) gone (num 4) ≡ no
  pub before_null_high : between_slot int64s ends.Both (num 3) (num 2) gone ≡ gone
  pub among : in_slot three (num 3) ≡ yes
  pub not_among : in_slot three (num 2) ≡ no
  pub null_among : in_slot three gone ≡ gone
  pub in_nothing : in_slot [] (num 2) ≡ no

-- functions of whole columns: shifts and slices past both ends, lists one after another
pub record ColumnFunctionRows : Type 0 where
  pub later : shifted (pos 1) three ≡ gone ∷ num 1 ∷ gone ∷ []
  pub sooner : shifted (negsuc 0) three ≡ gone ∷ num 3 ∷ gone ∷ []
  pub unmoved : shifted (pos 0) three ≡ three
  pub past_end : shifted (pos 5) three ≡ gone ∷ gone ∷ gone ∷ []
  pub past_start : shifted (negsuc 9223372036854775807) three ≡ gone ∷ gone ∷ gone ∷ []
  pub shifted_none : shifted (pos 1) [] ≡ []
  pub present : present_slots three ≡ num 1 ∷ num 3 ∷ []
  pub present_none : present_slots (gone ∷ []) ≡ []
  pub lists : exploded (list_slot (num 1 ∷ gone ∷ []) ∷ list_slot [] ∷ gone ∷ list_slot (num 4 ∷ []) ∷ []) ≡ num 1 ∷ gone ∷ gone ∷ gone ∷ num 4 ∷ []
  pub no_list : exploded [] ≡ []
  pub window : slice_window (pos 1) (Some (pos 2)) 4 ≡ (1, 2)
  pub window_from_end : slice_window (negsuc 1) (Some (pos 5)) 3 ≡ (1, 2)
  pub window_before_start : slice_window (negsuc 4) (Some (pos 3)) 3 ≡ (0, 1)
  pub window_all_before : slice_window (negsuc 8) (Some (pos 3)) 3 ≡ (0, 0)
  pub window_past_end : slice_window (pos 5) (Some (pos 3)) 3 ≡ (3, 0)
  pub window_to_end : slice_window (pos 1) None 3 ≡ (1, 2)
  pub window_of_none : slice_window (pos 0) None 0 ≡ (0, 0)
  pub window_backwards : slice_window (pos 2) (Some (negsuc 0)) 3 ≡ (2, 0)
  pub rows : window_of (pos 1) (Some (pos 1)) three ≡ gone ∷ []
  pub rows_to_end : window_of (negsuc 1) None three ≡ gone ∷ num 3 ∷ []
  pub rows_before_start : window_of (negsuc 4) (Some (pos 3)) three ≡ num 1 ∷ []

-- all the small cases of functions
pub record FunctionRows : Type 0 where
  pub slots : SlotFunctionRows
  pub columns : ColumnFunctionRows
