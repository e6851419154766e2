use Rattle.px_window.proofs.SlotBySlot.{differ_columns}
use Rattle.px_window.proofs.same.same_columns.Goals as goal

pub returns-then-a-b : goal.returns-then-a-b
returns-then-a-b c = differ_columns c.args.a.now c.args.b.now c.if-a-b.true
