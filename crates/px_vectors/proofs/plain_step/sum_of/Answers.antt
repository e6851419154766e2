use Rattle.std.proofs.Common.{◌≡◌, ◌∙◌, length, ap, arith, Ok, ℤ}
use Rattle.std.specs.Int.{w128, cast_signed, cast_unsigned}
use Rattle.std.specs.List.{range_with_len}
use Rattle.std.proofs.lemmas.Int.{ints}
use Rattle.std.proofs.lemmas.List.FromFn.{length-range_with_len}
use Rattle.px_column.specs.Prelude.{integer, kind_of, datum_of}
use Rattle.px_column.specs.Sum.{sum_kind, total, wrapped}
use Rattle.px_frame.specs.Frame.{slots_at}
use Rattle.px_vectors.proofs.PlainColumns.{all_slots}
use Rattle.px_vectors.proofs.PlainValues.{sum_found}
use Rattle.px_vectors.proofs.Told.{told}
use Rattle.px_vectors.proofs.plain_step.sum_of.Goals as goal

pub total_at-requires : goal.total_at-requires
total_at-requires c =
    let all : c.in_ok-rows.rows.items ≡ range_with_len 0 c.len.result = told _ _ c.in_ok-rows.ensures in
    let n : length c.deref.result.now ≡ c.len.result = ap length (c.deref.ensures.value ∙ all) ∙ length-range_with_len 0 c.len.result in
    omega arith

pub returns-clause-sum : goal.returns-clause-sum
returns-clause-sum c =
    let xs = c.args.column.now.slots in
    let k = kind_of c.in-Some.dtype in
    let all : c.in_ok-rows.rows.items ≡ range_with_len 0 c.len.result = told _ _ c.in_ok-rows.ensures in
    let rows = c.deref.ensures.value ∙ all ∙ ap (range_with_len 0) c.len.ensures in
    let whole : c.total_at.result ≡ total xs = c.total_at.ensures ∙ ap (λ ns. total (slots_at xs ns)) rows ∙ ap total (all_slots xs) in
    let same : cast_signed w128 (cast_unsigned w128 c.total_at.result) ≡ c.total_at.result = omega (arith, ints) in
    let value = c.wrap_sum.ensures.value ∙ ap (λ (z : ℤ). integer (wrapped k z)) (same ∙ whole) in
    ap Ok (sum_found xs (sum_kind c.args.column.now.kind) k (datum_of c.wrap_sum.result) (c.in-Some.ensures ∙ ap sum_kind c.dtype.ensures) value)
