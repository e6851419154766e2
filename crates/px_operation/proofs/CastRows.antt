-- Each row of the table computes.
use Rattle.std.proofs.Common.{refl}
use Rattle.std.specs.Fmt.{digits}
use Rattle.px_operation.specs.CastRows.{NumberCastRows, TextCastRows, ListCastRows, CastRows}

number_cast_rows : NumberCastRows
unfolding digits
number_cast_rows = record {
  null = refl;
  null_of_no_type = refl;
  same = refl;
  greatest = refl;
  past_refused = refl;
  past_null = refl;
  past_wraps = refl;
  negative_refused = refl;
  negative_null = refl;
  negative_wraps = refl;
  yes_number = refl;
  no_number = refl;
  zero_truth = refl;
  other_truth = refl;
  truth_same = refl;
}

text_cast_rows : TextCastRows
unfolding digits
text_cast_rows = record {
  digits = refl;
  zero_digits = refl;
  minus = refl;
  yes_text = refl;
  no_text = refl;
  same = refl;
  number = refl;
  leading_zeros = refl;
  minus_zero = refl;
  past_refused = refl;
  past_null = refl;
  past_wraps = refl;
  far_past_wraps = refl;
  empty_refused = refl;
  empty_null = refl;
  empty_wraps = refl;
  minus_alone = refl;
  two_minus = refl;
  plus = refl;
  space = refl;
  letter = refl;
  text_bytes = refl;
  bytes_same = refl;
}

list_cast_rows : ListCastRows
unfolding digits
list_cast_rows = record {
  empty = refl;
  items = refl;
  item_null = refl;
  item_refused = refl;
  nested = refl;
  rows = refl;
  rows_refused = refl;
  no_rows = refl;
}

pub cast_rows : CastRows
cast_rows = record {
  numbers = number_cast_rows;
  texts = text_cast_rows;
  lists = list_cast_rows;
}
