-- The sum of one row more.
use Rattle.std.proofs.Common.{◌≡◌, ◌∙◌, ℕ, ◌+◌, ◌<◌, ◌+ℤ◌, List, ap, length, take}
use Rattle.px_value.specs.Datum.{Slot}
use Rattle.px_value.specs.Series.{slot_at}
use Rattle.px_operation.specs.Sum.{addend, total}
use Rattle.px_operation.proofs.SumLaws.{total_push}
use Rattle.px_column.proofs.Taking.{take_row}

pub total_row : (xs : List Slot) (i : ℕ) → i < length xs → total (take (i + 1) xs) ≡ total (take i xs) +ℤ addend (slot_at xs i)
total_row xs i h = ap total (take_row xs i h) ∙ total_push (take i xs) (slot_at xs i)
