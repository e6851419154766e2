-- Each row of the table computes.
use Rattle.std.proofs.Common.{refl}
use Rattle.px_operation.specs.ReductionRows.{ReductionRows}

pub reduction_rows : ReductionRows
reduction_rows = record {
  min = refl;
  max = refl;
  sum = refl;
  first = refl;
  last = refl;
  distinct = refl;
  count = refl;
  count_present = refl;
  implode = refl;
  min_none = refl;
  max_none = refl;
  sum_none = refl;
  first_none = refl;
  last_none = refl;
  distinct_none = refl;
  count_none = refl;
  implode_none = refl;
  min_nulls = refl;
  sum_nulls = refl;
  distinct_nulls = refl;
  min_texts = refl;
  max_truths = refl;
  min_negative = refl;
  sum_wider = refl;
  sum_truths = refl;
  first_list = refl;
}
