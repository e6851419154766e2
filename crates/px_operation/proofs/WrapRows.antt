-- Each row of the table computes.
use Rattle.std.proofs.Common.{refl}
use Rattle.px_operation.specs.WrapRows.{WrapRows}

pub wrap_rows : WrapRows
wrap_rows = record {
  int8_kept = refl;
  int8_past = refl;
  int8_least = refl;
  int8_before = refl;
  int8_twice = refl;
  int16_past = refl;
  int16_before = refl;
  int32_past = refl;
  int32_before = refl;
  int64_past = refl;
  int64_before = refl;
  uint8_kept = refl;
  uint8_past = refl;
  uint8_before = refl;
  uint16_past = refl;
  uint16_before = refl;
  uint32_past = refl;
  uint32_before = refl;
  uint64_past = refl;
  uint64_before = refl;
  greatest_in = refl;
  past_greatest = refl;
  least_in = refl;
  before_least = refl;
  negative_unsigned = refl;
  no_integer_type = refl;
}
