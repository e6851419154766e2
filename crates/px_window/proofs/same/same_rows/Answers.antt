use Rattle.std.proofs.Common.{◌∙◌, sym}
use Rattle.px_value.proofs.LengthLaws.{differ_len}
use Rattle.px_window.proofs.same.same_rows.Goals as goal

pub returns-then-len : goal.returns-then-len
returns-then-len c = differ_len c.args.a.now.slots c.args.b.now.slots (λ e. c.if-len.true (c.len.ensures ∙ e ∙ sym c.len-2.ensures))
