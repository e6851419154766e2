-- Each row of the table computes.
use Rattle.std.proofs.Common.{refl}
use Rattle.px_operation.specs.OperatorRows.{ComparisonRows, ArithmeticRows, LogicRows, OperatorRows}

comparison_rows : ComparisonRows
comparison_rows = record {
  eq = refl;
  eq_differs = refl;
  eq_null = refl;
  eq_nulls = refl;
  not_eq = refl;
  not_eq_same = refl;
  not_eq_null = refl;
  validity = refl;
  validity_null = refl;
  validity_nulls = refl;
  not_validity_null = refl;
  not_validity_nulls = refl;
  lt = refl;
  lt_same = refl;
  lt_null = refl;
  lt_eq_same = refl;
  lt_eq_greater = refl;
  gt = refl;
  gt_same = refl;
  gt_eq_same = refl;
  gt_eq_less = refl;
  false_first = refl;
  texts = refl;
  front_first = refl;
  bytes = refl;
}

arithmetic_rows : ArithmeticRows
arithmetic_rows = record {
  plus = refl;
  plus_null = refl;
  plus_past = refl;
  plus_past_unsigned = refl;
  plus_texts = refl;
  plus_text_null = refl;
  minus = refl;
  minus_below = refl;
  minus_below_unsigned = refl;
  times = refl;
  times_past = refl;
  times_greatest = refl;
  quotient = refl;
  quotient_of_negative = refl;
  quotient_by_negative = refl;
  quotient_of_negatives = refl;
  quotient_by_zero = refl;
  quotient_null = refl;
  quotient_wraps = refl;
  floor = refl;
  floor_of_negative = refl;
  floor_by_negative = refl;
  floor_of_negatives = refl;
  floor_exact = refl;
  floor_by_zero = refl;
  floor_wraps = refl;
  rest = refl;
  rest_of_negative = refl;
  rest_by_negative = refl;
  rest_of_negatives = refl;
  rest_exact = refl;
  rest_by_zero = refl;
  rest_of_least = refl;
}

logic_rows : LogicRows
logic_rows = record {
  and = refl;
  and_no = refl;
  and_no_null = refl;
  and_null_no = refl;
  and_null_yes = refl;
  and_nulls = refl;
  or = refl;
  or_yes = refl;
  or_yes_null = refl;
  or_null_yes = refl;
  or_null_no = refl;
  or_nulls = refl;
  xor = refl;
  xor_same = refl;
  xor_null = refl;
  and_bits = refl;
  and_bits_negative = refl;
  and_bits_null = refl;
  or_bits = refl;
  or_bits_negative = refl;
  or_bits_unsigned = refl;
  xor_bits = refl;
  xor_bits_negative = refl;
  xor_bits_null = refl;
  logical_and = refl;
  logical_and_zero = refl;
  logical_and_null = refl;
  logical_and_truths = refl;
  logical_or = refl;
  logical_or_zeros = refl;
  logical_or_null = refl;
  logical_or_truths = refl;
}

pub operator_rows : OperatorRows
operator_rows = record {
  comparisons = comparison_rows;
  arithmetic = arithmetic_rows;
  logic = logic_rows;
}
