use Rattle.std.proofs.Common.{◌≡◌, ◌∙◌, Ok, true}
use Rattle.px_value.specs.Kind.{slot_fits}
use Rattle.px_value.specs.LentView.{slot_of_ref}
use Rattle.px_value.specs.View.{slot_of}
use Rattle.px_column.proofs.Fitting.{first_fits}
use Rattle.px_column.proofs.row_by_row.map_rows.Goals as goal

pub push-requires-clause-fits : goal.push-requires-clause-fits
push-requires-clause-fits g c =
    let x = slot_of_ref c.in-Some.row in
    let value : slot_of c.in_ok-f.field-0 ≡ g.made x = cc (c.requires.1.1.0 c.in-Some.row (Ok c.in_ok-f.field-0) c.in_ok-f.ensures) in
    let fits : slot_fits c.args.column.now.kind x ≡ true = (first_fits c.args.column.now.kind c.loop-row.row-iterator _ x c.in-Some.ensures.steps c.loop-row.invariant.fit).0 in
    (λ i. slot_fits (c.loop-row.invariant.kind i) (value i)) ∙ c.requires.1.1.1 x fits
