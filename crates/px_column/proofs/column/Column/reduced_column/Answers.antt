use Rattle.std.proofs.Common.{◌≡◌, ◌∙◌, ap}
use Rattle.px_value.specs.Kind.{slot_fits}
use Rattle.px_value.specs.KindView.{kind_of}
use Rattle.px_value.specs.Series.{Series}
use Rattle.px_value.specs.View.{slot_of}
use Rattle.px_operation.specs.Reduction.{reduced_slot}
use Rattle.px_column.proofs.Building.{made_is}
use Rattle.px_column.proofs.Reducing.{fits_reduced}
use Rattle.px_column.proofs.column.Column.reduced_column.Goals as goal

pub push-requires-clause-fits : goal.push-requires-clause-fits
push-requires-clause-fits c =
    let column = c.args.self.now in
    let value : slot_of c.in_ok-slot.slot ≡ reduced_slot c.args.method column.kind column.slots = cc (c.in_ok-slot.ensures) in
    let type : c.in_ok-rows.rows.kind ≡ kind_of c.args.dtype = ap (λ (s : Series). s.kind) (made_is _ c.in_ok-rows.rows c.in_ok-rows.ensures) in
    (λ i. slot_fits (type i) (value i)) ∙ fits_reduced c.args.method column.kind (kind_of c.args.dtype) column.slots c.rows.ensures.fit c.rows.ensures.short c.requires
