use Rattle.std.proofs.Common.{◌≡◌, ◌∙◌, ap}
use Rattle.std.specs.List.{list_any}
use Rattle.px_value.specs.Equality.{row_eq}
use Rattle.px_value.specs.Series.{slot_at}
use Rattle.px_column.specs.Key.{key_at, row_of}
use Rattle.px_column.proofs.Distinct.{any_distinct}
use Rattle.px_column.proofs.column.Column.stands_in.Goals as goal

pub returns : goal.returns
returns c = λ xs e.
    let s = slot_at c.args.self.now.slots c.args.row in
    let key : c.new-key.result ≡ row_of s = c.new-key.ensures ∙ ap (λ by. key_at by c.args.row) c.from_ref.ensures.value in
    c.contains.ensures ∙ (λ i. list_any (row_eq (key i)) (e i)) ∙ any_distinct xs s
