use Rattle.std.proofs.Common.{◌≡◌, ℕ, List, Ok, Err, length, ap}
use Rattle.std.specs.Prelude.{Result, IfOk}
use Rattle.px_value.specs.Answer.{Answers}
use Rattle.px_value.specs.Datum.{Slot}
use Rattle.px_value.specs.Result.{◌>>=◌}
use Rattle.px_value.specs.declared.error.PxError.{PxError}
use Rattle.px_column.specs.Beside.{common_length, rows_to}
use Rattle.px_column.proofs.Beside.{length_first, length_right, length_second}
use Rattle.px_column.proofs.row_by_row.len_of_three.Goals as goal

first_there : (xs : List Slot) (b m c : ℕ) (r : Result ℕ PxError) → common_length (length xs) b ≡ Ok m → Answers r (common_length m c) → IfOk r (λ n. length (rows_to n xs) ≡ n)
first_there xs b m c (Ok n) h k = length_first xs b m c n h k
first_there xs b m c (Err e) h k = tt

second_there : (a : ℕ) (ys : List Slot) (m c : ℕ) (r : Result ℕ PxError) → common_length a (length ys) ≡ Ok m → Answers r (common_length m c) → IfOk r (λ n. length (rows_to n ys) ≡ n)
second_there a ys m c (Ok n) h k = length_second a ys m c n h k
second_there a ys m c (Err e) h k = tt

third_there : (m : ℕ) (zs : List Slot) (r : Result ℕ PxError) → Answers r (common_length m (length zs)) → IfOk r (λ n. length (rows_to n zs) ≡ n)
third_there m zs (Ok n) k = length_right m zs n k
third_there m zs (Err e) k = tt

pub returns : goal.returns
returns c =
    let xs = c.args.first.now.slots in
    let ys = c.args.second.now.slots in
    let zs = c.args.third.now.slots in
    let pair : common_length (length xs) (length ys) ≡ Ok c.in_ok-pair.pair = rw (← c.len.ensures) (rw (← c.len-2.ensures) c.in_ok-pair.ensures) in
    let both : Answers c.common_len-2.result (common_length c.in_ok-pair.pair (length zs)) = rw (← c.len-3.ensures) c.common_len-2.ensures in
    record {
      answer = rw (ap (λ (r : Result ℕ PxError). r >>= (λ k. common_length k (length zs))) pair) both;
      first = first_there xs (length ys) c.in_ok-pair.pair (length zs) c.common_len-2.result pair both;
      second = second_there (length xs) ys c.in_ok-pair.pair (length zs) c.common_len-2.result pair both;
      third = third_there c.in_ok-pair.pair zs c.common_len-2.result both;
    }
