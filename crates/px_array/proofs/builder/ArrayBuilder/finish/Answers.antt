use Rattle.std.proofs.Common.{Ok, ap, ◌∙◌, sym}
use Rattle.px_value.specs.KindView.{kind_of}
use Rattle.px_array.specs.Places.{Places}
use Rattle.px_array.proofs.Windows.{shared_inside, shared_rows}
use Rattle.px_array.proofs.builder.ArrayBuilder.finish.Goals as goal

pub of_inner-requires : goal.of_inner-requires
of_inner-requires c = shared_inside (kind_of c.self.inside.dtype) c.in_ok-new.field-0 c.self.inside.store c.in_ok-new.ensures.ok c.self.invariant

pub returns : goal.returns
returns c =
    ap (λ (s : Places). Ok s) (sym (c.of_inner.ensures
    ∙ ap (λ s. record { kind = kind_of c.self.inside.dtype; slots = s }) (shared_rows c.in_ok-new.field-0 c.self.inside.store c.in_ok-new.ensures.ok)
    ∙ c.self.view_is))
