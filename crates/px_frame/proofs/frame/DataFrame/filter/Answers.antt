use Rattle.std.proofs.Common.{◌≡◌, ◌∙◌, List, Result, ap, arith, length, map, subst, sym, true}
use Rattle.px_column.specs.Operator.{is_boolean_kind}
use Rattle.px_column.specs.Prelude.{Answers, Series}
use Rattle.px_value.specs.declared.error.PxError.{PxError}
use Rattle.px_frame.specs.Frame.{IsFrame, frame_of, height_of, kept_series}
use Rattle.px_frame.proofs.Kept.{all_as_mask, frame_of-kept}
use Rattle.px_frame.proofs.frame.DataFrame.filter.Goals as goal

pub filter_columns-requires-clause-height : goal.filter_columns-requires-clause-height
filter_columns-requires-clause-height c =
    let frame : IsFrame c.args.self.now = subst IsFrame c.self.view_is c.self.invariant.1 in
    let high : length c.args.mask.now.slots ≡ height_of c.args.self.now = sym c.len.ensures ∙ c.if-len-height.false ∙ c.height.ensures in
    rw (c.deref.ensures.value, c.self.view_is) (all_as_mask c.args.mask.now.slots c.args.self.now frame high)

pub returns-clause-answer : goal.returns-clause-answer
returns-clause-answer c =
    let frame : IsFrame c.args.self.now = subst IsFrame c.self.view_is c.self.invariant.1 in
    let high : length c.args.mask.now.slots ≡ height_of c.args.self.now = sym c.len.ensures ∙ c.if-len-height.false ∙ c.height.ensures in
    let truths : is_boolean_kind c.args.mask.now.kind ≡ true = grind (arith, c.dtype.ensures, c.is_boolean.ensures, c.if-not-is_boolean.false) in
    let columns : c.deref.result.now ≡ c.args.self.now = cc (c.deref.ensures.value, c.self.view_is) in
    let kept : c.in_ok-filter_columns.field-0.items ≡ map (kept_series c.args.mask.now.slots) c.args.self.now = cc (rw columns at c.in_ok-filter_columns.ensures) in
    subst (λ (e : Result (List Series) PxError). Answers c.new.result e) (ap frame_of kept ∙ frame_of-kept c.args.self.now c.args.mask.now frame truths high) c.new.ensures.answer
