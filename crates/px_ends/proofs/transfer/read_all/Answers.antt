use Rattle.std.proofs.Common.{ℕ, arith, length-take}
use Rattle.px_ends.proofs.HasRead.{HasRead-gives, HasRead-limit}
use Rattle.px_ends.proofs.transfer.read_all.Goals as goal

pub returns-in-Ok-eq0-clause-front : goal.returns-in-Ok-eq0-clause-front
returns-in-Ok-eq0-clause-front g c =
    HasRead-gives c.in-Ok-eq0.field-0 _ _ _ _ _ c.loop-bytes.invariant.reads c.in-Ok-eq0.ensures.gives (omega arith)

pub returns-in_err-extend_from_slice-in-Ok-clause-front :
    goal.returns-in_err-extend_from_slice-in-Ok-clause-front
returns-in_err-extend_from_slice-in-Ok-clause-front g c =
    HasRead-gives c.in-Ok.count _ _ _ _ _ c.loop-bytes.invariant.reads c.in-Ok.ensures.gives (omega (arith, length-take {A = ℕ}, c.in-Ok.ensures.within))

pub returns-clause-stops : goal.returns-clause-stops
returns-clause-stops g c =
    (HasRead-limit _ _ _ c.loop-bytes.invariant.reads (omega (arith, c.loop-bytes.bytes.ok.0)), c.loop-bytes.invariant.steady)
