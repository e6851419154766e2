use Rattle.std.proofs.Common.{◌≡◌, ◌∙◌, Some, Ok, map, List, ap, subst}
use Rattle.px_column.specs.Prelude.{AnswersBy, Series}
use Rattle.px_frame.specs.Frame.{taken_series}
use Rattle.px_frame.specs.Groups.{Group, first_row}
use Rattle.px_frame.proofs.Each.{few_firsts, firsts_in_all, key_columns}
use Rattle.px_frame.proofs.aggregate.key_rows.Goals as goal

pub take_columns-requires-clause-few : goal.take_columns-requires-clause-few
take_columns-requires-clause-few c =
    let rows : c.deref.result.now ≡ map (λ (g : Group). Some (first_row g.rows)) c.args.groups.now.groups = cc (c.in_ok-rows.ensures.rows, c.deref.ensures.value) in
    rw rows (few_firsts c.args.groups.now.height c.args.groups.now.groups c.first_rows.ensures.groups)

pub take_columns-requires-clause-within : goal.take_columns-requires-clause-within
take_columns-requires-clause-within c =
    let rows : c.deref.result.now ≡ map (λ (g : Group). Some (first_row g.rows)) c.args.groups.now.groups = cc (c.in_ok-rows.ensures.rows, c.deref.ensures.value) in
    rw rows (firsts_in_all c.args.groups.now.height c.args.groups.now.groups c.args.by.now c.first_rows.ensures.groups c.requires.rows c.requires.height)

pub returns : goal.returns
returns c =
    let rows : c.deref.result.now ≡ map (λ (g : Group). Some (first_row g.rows)) c.args.groups.now.groups = cc (c.in_ok-rows.ensures.rows, c.deref.ensures.value) in
    let made = ap (λ rs. map (taken_series rs) c.args.by.now) rows ∙ key_columns c.args.groups.now.groups c.args.by.now in
    subst (λ (ss : List Series). AnswersBy (λ v. v.items) c.take_columns.result (Ok ss)) made c.take_columns.ensures
