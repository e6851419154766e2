use Rattle.std.proofs.Common.{◌≡◌, take}
use Rattle.px_operation.specs.Sum.{IsWithin, total}
use Rattle.px_column.proofs.kernels.sum.total_of.Given as goal

abbrev pub invariant-loop-index : goal.invariant-loop-index
invariant-loop-index l = record {
  within : IsWithin l.index l.sum;
  sum : l.sum ≡ total (take l.index l.integers);
}
