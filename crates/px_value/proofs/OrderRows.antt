-- Each row of the table computes.
use Rattle.std.proofs.Common.{refl}
use Rattle.px_value.specs.OrderRows.{OrderRows}

pub order_rows : OrderRows
order_rows = record {
  truths = refl;
  texts = refl;
  bytes_front = refl;
  same_texts = refl;
  up = refl;
  down = refl;
  null_first = refl;
  null_first_down = refl;
  null_last = refl;
  null_last_down = refl;
  nulls = refl;
  five_up = refl;
  five_up_nulls_last = refl;
  five_down = refl;
  five_down_nulls_last = refl;
  no_row = refl;
  no_key = refl;
  two_keys = refl;
  flags_kept = refl;
  no_flag = refl;
  one_flag = refl;
  first_flag = refl;
  more_flags = refl;
  keys = refl;
}
