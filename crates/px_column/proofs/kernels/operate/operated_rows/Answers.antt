use Rattle.std.proofs.Common.{◌≡◌, ◌∙◌, Ok, true, sym, subst}
use Rattle.px_value.specs.Answer.{Answers}
use Rattle.px_value.specs.Kind.{Kind, slot_fits}
use Rattle.px_operation.specs.Operator.{operated, operator_kind}
use Rattle.px_column.specs.Beside.{rows_to, zipped}
use Rattle.px_column.proofs.Operating.{same_kinds, fits_made}
use Rattle.px_column.proofs.kernels.operate.operated_rows.Goals as goal

pub zip_rows-requires-clause-right : goal.zip_rows-requires-clause-right
zip_rows-requires-clause-right c =
    sym (same_kinds c.args.op c.args.left.now.kind c.args.right.now.kind c.args.rows.kind c.requires.kind) ∙ sym c.dtype-dtype.ensures

pub zip_rows-requires-clause-fits : goal.zip_rows-requires-clause-fits
zip_rows-requires-clause-fits c =
    let same = same_kinds c.args.op c.args.left.now.kind c.args.right.now.kind c.args.rows.kind c.requires.kind in
    let kind = subst (λ (k : Kind). operator_kind c.args.op c.args.left.now.kind k ≡ Ok c.args.rows.kind) (sym same) c.requires.kind in
    subst (λ (k : Kind). (x y : _) → slot_fits k x ≡ true → slot_fits k y ≡ true → slot_fits c.args.rows.kind (operated k c.args.op x y) ≡ true) (sym c.dtype-dtype.ensures)
    (λ x y h g. fits_made c.args.op c.args.left.now.kind c.args.left.now.kind c.args.rows.kind x y kind h g)

pub returns : goal.returns
returns c =
    subst (λ (k : Kind). Answers c.zip_rows.result (Ok (record c.args.rows { slots = zipped (operated k c.args.op) (rows_to c.args.len c.args.left.now.slots) (rows_to c.args.len c.args.right.now.slots) })))
    c.dtype-dtype.ensures c.zip_rows.ensures
