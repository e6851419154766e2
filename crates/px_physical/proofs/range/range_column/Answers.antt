use Rattle.std.proofs.Common.{rules, ◌≡◌, ◌&&◌, ◌-ℤ◌, ◌^◌, true, nat_lt}
use Rattle.px_column.specs.Prelude.{integer, fits, kind_of, slots_of}
use Rattle.px_tree.specs.Node.{integers, natural}
use Rattle.px_tree.specs.Typing.{is_range_kind}
use Rattle.px_answers.proofs.Ranges.{range_made, few_enough, count_is}
use Rattle.px_physical.proofs.range.range_column.Goals as goal

pub returns : goal.returns
returns c =
    let k = kind_of c.args.dtype.now in
    let r : is_range_kind k ≡ true = search rules in
    let f : (fits k (integer c.args.low) && fits k (integer c.args.high)) ≡ true = search rules in
    let n : nat_lt (natural (c.args.high -ℤ c.args.low)) (2 ^ 32) ≡ true = few_enough (natural (c.args.high -ℤ c.args.low)) (2 ^ 32) c.range_len.result c.in-Some.count (search rules) c.in-Some.is in
    let e : c.in-Some.count ≡ natural (c.args.high -ℤ c.args.low) = count_is (natural (c.args.high -ℤ c.args.low)) (2 ^ 32) c.range_len.result c.in-Some.count (search rules) c.in-Some.is in
    let xs : slots_of c.in_ok-rows.rows.items ≡ integers c.args.low c.args.high = rw (← e) (search rules) in
    range_made k c.args.low c.args.high (slots_of c.in_ok-rows.rows.items) c.from_values.result r f n xs (search rules)
