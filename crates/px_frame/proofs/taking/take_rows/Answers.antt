use Rattle.std.proofs.Common.{◌≡◌, ◌∙◌, Some, map, ap, subst}
use Rattle.std.proofs.lemmas.List.{length-map}
use Rattle.px_column.specs.Column.{taken}
use Rattle.px_column.specs.Prelude.{Answers}
use Rattle.px_frame.proofs.Rows.{taken_there}
use Rattle.px_frame.proofs.taking.take_rows.Goals as goal

pub take-requires : goal.take-requires
take-requires c =
    let indices : c.deref.result.now ≡ map Some c.args.rows.now = cc (c.deref.ensures.value, c.in_ok-indices.ensures) in
    rw (indices, length-map c.args.rows.now Some) c.requires.few

pub returns : goal.returns
returns c =
    let s = c.args.column.now in
    let rows = c.args.rows.now in
    let indices : c.deref.result.now ≡ map Some rows = cc (c.deref.ensures.value, c.in_ok-indices.ensures) in
    subst (Answers c.take.result) (ap (taken s) indices ∙ taken_there s rows c.requires.below) c.take.ensures
