use Rattle.std.proofs.Common.{◌≡◌, ℕ, List, Ok, Err, length}
use Rattle.std.specs.Prelude.{Result, IfOk}
use Rattle.px_value.specs.Answer.{Answers}
use Rattle.px_value.specs.Datum.{Slot}
use Rattle.px_value.specs.declared.error.PxError.{PxError}
use Rattle.px_column.specs.Beside.{common_length, rows_to}
use Rattle.px_column.proofs.Beside.{length_left, length_right}
use Rattle.px_column.proofs.row_by_row.len_beside.Goals as goal

left_there : (xs ys : List Slot) (r : Result ℕ PxError) → Answers r (common_length (length xs) (length ys)) → IfOk r (λ n. length (rows_to n xs) ≡ n)
left_there xs ys (Ok n) h = length_left xs (length ys) n h
left_there xs ys (Err e) h = tt

right_there : (xs ys : List Slot) (r : Result ℕ PxError) → Answers r (common_length (length xs) (length ys)) → IfOk r (λ n. length (rows_to n ys) ≡ n)
right_there xs ys (Ok n) h = length_right (length xs) ys n h
right_there xs ys (Err e) h = tt

pub returns-clause-left : goal.returns-clause-left
returns-clause-left c = left_there c.args.left.now.slots c.args.right.now.slots c.common_len.result (rw (← c.len.ensures) (rw (← c.len-2.ensures) c.common_len.ensures))

pub returns-clause-right : goal.returns-clause-right
returns-clause-right c = right_there c.args.left.now.slots c.args.right.now.slots c.common_len.result (rw (← c.len.ensures) (rw (← c.len-2.ensures) c.common_len.ensures))
