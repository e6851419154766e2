use Rattle.std.proofs.Common.{◌≡◌, ◌∙◌, List, Ok, Result, ap, subst}
use Rattle.std.specs.List.{range_with_len}
use Rattle.px_column.specs.Prelude.{Answers, Series}
use Rattle.px_value.specs.declared.error.PxError.{PxError}
use Rattle.px_frame.specs.Frame.{IsFrame, frame_of, subframe}
use Rattle.px_frame.proofs.Rows.{IsFrame-subframe, frame_of-IsFrame}
use Rattle.px_frame.proofs.frame.DataFrame.slice.Goals as goal

pub slice_columns-requires-clause-height : goal.slice_columns-requires-clause-height
slice_columns-requires-clause-height c =
    let frame : IsFrame c.args.self.now = subst IsFrame c.self.view_is c.self.invariant.1 in
    rw (c.deref.ensures.value, c.self.view_is, c.height-height.ensures) frame.even

pub returns : goal.returns
returns c =
    let frame : IsFrame c.args.self.now = subst IsFrame c.self.view_is c.self.invariant.1 in
    let rows = range_with_len c.args.offset c.args.length in
    let columns : c.deref.result.now ≡ c.args.self.now = cc (c.deref.ensures.value, c.self.view_is) in
    let made : c.in_ok-slice_columns.field-0.items ≡ subframe c.args.self.now rows = cc (rw columns at c.in_ok-slice_columns.ensures) in
    subst (λ (e : Result (List Series) PxError). Answers c.new.result e) (ap frame_of made ∙ frame_of-IsFrame (subframe c.args.self.now rows) (IsFrame-subframe rows c.args.self.now frame)) c.new.ensures.answer
