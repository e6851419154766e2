use Rattle.std.proofs.Common.{◌<◌, ◌^◌, Option, arith, length, map, subst, sym}
use Rattle.std.proofs.lemmas.List.{length-map}
use Rattle.serde_json.specs.View.{view}
use Rattle.px_column.specs.Prelude.{Series, kind_of}
use Rattle.px_document.specs.Form.{Reads}
use Rattle.px_document.proofs.Fitting.{fitting_rows, too_many_rows}
use Rattle.px_document.proofs.document.column.read_rows.Goals as goal

pub returns-then-values : goal.returns-then-values
returns-then-values c =
    let ds = map view c.args.values.now in
    too_many_rows c.args.name (kind_of c.args.dtype.now) ds (omega (arith, length-map c.args.values.now view, c.if-values.true))

pub returns : goal.returns
returns c =
    let ds = map view c.args.values.now in
    let short : length ds < 2 ^ 32 = omega (arith, length-map c.args.values.now view, c.if-values.false) in
    subst (λ (e : Option Series). Reads c.read_fitting_rows.result e) (sym (fitting_rows c.args.name (kind_of c.args.dtype.now) ds short)) c.read_fitting_rows.ensures
