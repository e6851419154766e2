use Rattle.std.proofs.Common.{◌≡◌, List, Some, Result, map, subst}
use Rattle.px_column.specs.Prelude.{Answers, Series}
use Rattle.px_value.specs.declared.error.PxError.{PxError}
use Rattle.px_frame.specs.Frame.{IsFrame, taken_series}
use Rattle.px_frame.proofs.Rows.{in_all, frame_of-rows}
use Rattle.px_frame.proofs.frame.DataFrame.take_rows.Goals as goal

pub take_columns-requires-clause-within : goal.take_columns-requires-clause-within
take_columns-requires-clause-within c =
    let indices : c.in_ok-indices.indices.items ≡ map Some c.args.rows.now = cc (c.in_ok-indices.ensures) in
    let frame : IsFrame c.args.self.now = subst IsFrame c.self.view_is c.self.invariant.1 in
    rw (c.deref.ensures.value, c.deref-2.ensures.value, indices, c.self.view_is) (in_all _ c.args.rows.now c.args.self.now frame.even c.requires.below)

pub returns : goal.returns
returns c =
    let frame : IsFrame c.args.self.now = subst IsFrame c.self.view_is c.self.invariant.1 in
    let indices : c.deref-2.result.now ≡ map Some c.args.rows.now = cc (c.in_ok-indices.ensures, c.deref-2.ensures.value) in
    let columns : c.deref.result.now ≡ c.args.self.now = cc (c.deref.ensures.value, c.self.view_is) in
    let made : c.in_ok-take_columns.field-0.items ≡ map (taken_series (map Some c.args.rows.now)) c.args.self.now = cc (rw (indices, columns) at c.in_ok-take_columns.ensures) in
    subst (λ (e : Result (List Series) PxError). Answers c.new.result e) (frame_of-rows c.args.rows.now c.args.self.now c.in_ok-take_columns.field-0.items frame made) c.new.ensures.answer
