use Rattle.px_value.specs.View.{slot_of}
use Rattle.std.proofs.Common.{arith}
use Rattle.px_value.proofs.LengthLaws.{differ_len_map}
use Rattle.px_value.proofs.value_ref.+same.Goals as goal

pub same_values-returns-then-len : goal.same_values-returns-then-len
same_values-returns-then-len t c =
    rw (← c.a.view_is, ← c.b.view_is) (differ_len_map slot_of slot_of c.a.inside.items.items c.b.inside.items.items (λ e. omega (arith, e)))
