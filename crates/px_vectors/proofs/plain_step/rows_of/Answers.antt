use Rattle.std.proofs.Common.{◌≡◌, ◌∙◌, subst, true, List}
use Rattle.px_column.specs.Prelude.{Answers, Slot, slots_fit, kind_of, slots_of}
use Rattle.px_frame.specs.Frame.{series_at}
use Rattle.px_vectors.proofs.PlainColumns.{made_as}
use Rattle.px_vectors.proofs.Told.{told}
use Rattle.px_vectors.proofs.plain_step.rows_of.Goals as goal

pub returns : goal.returns
returns c =
    let s = series_at c.args.rows.now c.args.column.now in
    let name : c.in_ok-try_clone.field-0 ≡ s.name = told _ _ c.in_ok-try_clone.ensures ∙ c.name.ensures in
    let kind : kind_of c.in_ok-try_clone-2.field-0 ≡ s.kind = told _ _ c.in_ok-try_clone-2.ensures ∙ c.dtype.ensures in
    let same : slots_of c.in_ok-values.values.items ≡ s.slots = told _ _ c.in_ok-values.ensures.values in
    let fit : slots_fit s.kind s.slots ≡ true = subst (λ (xs : List Slot). slots_fit s.kind xs ≡ true) same c.in_ok-values.ensures.fit in
    subst (Answers c.from_values.result) (made_as s _ _ _ name kind same fit) c.from_values.ensures
