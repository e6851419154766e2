-- Each row of the table computes.
use Rattle.std.proofs.Common.{refl}
use Rattle.px_operation.specs.FunctionRows.{SlotFunctionRows, ColumnFunctionRows, FunctionRows}

slot_function_rows : SlotFunctionRows
slot_function_rows = record {
  null = refl;
  null_not = refl;
  there = refl;
  there_not = refl;
  not_yes = refl;
  not_no = refl;
  not_null = refl;
  low_of_both = refl;
  high_of_both = refl;
  low_of_left = refl;
  high_of_left = refl;
  low_of_right = refl;
  high_of_right = refl;
  low_of_none = refl;
  high_of_none = refl;
  inside = refl;
  null_value = refl;
  past_null_low = refl;
  before_null_high = refl;
  among = refl;
  not_among = refl;
  null_among = refl;
  in_nothing = refl;
}

column_function_rows : ColumnFunctionRows
column_function_rows = record {
  later = refl;
  sooner = refl;
  unmoved = refl;
  past_end = refl;
  past_start = refl;
  shifted_none = refl;
  present = refl;
  present_none = refl;
  lists = refl;
  no_list = refl;
  window = refl;
  window_from_end = refl;
  window_before_start = refl;
  window_all_before = refl;
  window_past_end = refl;
  window_to_end = refl;
  window_of_none = refl;
  window_backwards = refl;
  rows = refl;
  rows_to_end = refl;
  rows_before_start = refl;
}

pub function_rows : FunctionRows
function_rows = record {
  slots = slot_function_rows;
  columns = column_function_rows;
}
