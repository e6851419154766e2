use Rattle.std.proofs.Common.{Ok, ap, ◌∙◌, sym}
use Rattle.px_value.specs.KindView.{kind_of}
use Rattle.px_value.specs.View.{slot_of}
use Rattle.px_array.specs.Places.{Places}
use Rattle.px_array.proofs.Windows.{same_inside, same_rows}
use Rattle.px_array.proofs.array.Array.full.Goals as goal

pub of_inner-requires : goal.of_inner-requires
of_inner-requires c = same_inside (kind_of c.args.dtype) c.in_ok-inner.inner (slot_of c.args.slot) c.args.len c.in_ok-inner.ensures.same c.in_ok-inner.ensures.covers c.requires c.ranges.len.fits

pub returns-clause-answer : goal.returns-clause-answer
returns-clause-answer c =
    ap (λ (s : Places). Ok s) (sym (c.of_inner.ensures
    ∙ ap (λ s. record { kind = kind_of c.args.dtype; slots = s }) (same_rows c.in_ok-inner.inner (slot_of c.args.slot) c.args.len c.in_ok-inner.ensures.same)))
