use Rattle.std.proofs.Common.{◌≡◌, ◌∙◌, ◌<◌, length, map, sym, arith}
use Rattle.std.proofs.lemmas.List.{length-map}
use Rattle.px_value.specs.View.{slot_of}
use Rattle.px_operation.specs.Function.{in_slot}
use Rattle.px_operation.specs.Reduction.{distinct_slots}
use Rattle.px_column.specs.Key.{row_of}
use Rattle.px_column.proofs.Building.{built_more}
use Rattle.px_column.proofs.Taking.{slot_map}
use Rattle.px_column.proofs.column.Column.member_rows.Goals as goal

pub loop-row-preserved : goal.loop-row-preserved
loop-row-preserved c =
    let f = in_slot c.args.among.now.slots in
    let xs = c.args.self.now.slots in
    let there : c.loop-row.row < length xs = omega (arith, c.len-row-end.ensures) in
    let table : c.in_ok-table.table.keys ≡ map row_of (distinct_slots c.args.among.now.slots) = cc (c.in_ok-table.ensures.keys) in
    let made = c.membership.ensures c.args.among.now.slots table in
    built_more c.args.rows.name c.args.rows.kind (map f xs) c.loop-row.row c.loop-row.rows c.push.new.self (slot_of c.membership.result)
    (omega (arith, there, length-map xs f)) c.loop-row.invariant c.in_ok-push.ensures.ok (made ∙ sym (slot_map f xs c.loop-row.row there))
