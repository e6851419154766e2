use Rattle.std.proofs.Common.{rules, ◌≡◌, ◌+ℤ◌, pos, Some, map}
use Rattle.std.proofs.Common.{w64, to_z, of_z}
use Rattle.std.specs.List.{range_with_len}
use Rattle.px_column.specs.Prelude.{integer, slots_of}
use Rattle.px_answers.proofs.Ranges.{row_more, rows_count}
use Rattle.px_physical.proofs.range.integers.Goals as goal

pub loop-place-preserved : goal.loop-place-preserved
loop-place-preserved c =
    row_more (to_z w64 (of_z w64 c.args.low)) c.loop-place.place c.loop-place.rows.items c.push.new.self.items c.row_at.result c.in_ok-push.ensures.items
    c.row_at.ensures c.loop-place.invariant

pub returns-clause-count : goal.returns-clause-count
returns-clause-count c =
    let whole : slots_of c.loop-place.rows.items ≡ map (λ i. Some (integer (c.args.low +ℤ pos i))) (range_with_len 0 c.args.count) = search rules in
    rows_count c.args.low c.args.count c.loop-place.rows.items whole
