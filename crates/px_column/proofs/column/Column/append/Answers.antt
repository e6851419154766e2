use Rattle.std.proofs.Common.{◌≡◌, ◌∙◌, ap, rules, sym, true}
use Rattle.px_value.specs.Kind.{kind_eq}
use Rattle.px_value.specs.Series.{Series}
use Rattle.px_column.proofs.Building.{made_is}
use Rattle.px_column.proofs.Operating.{kind_same}
use Rattle.px_column.proofs.column.Column.append.Goals as goal

pub push_rows-requires-2-clause-kind : goal.push_rows-requires-2-clause-kind
push_rows-requires-2-clause-kind c =
    let test : kind_eq c.args.self.now.kind c.args.other.now.kind ≡ true = search rules in
    let same = kind_same c.args.self.now.kind c.args.other.now.kind test in
    sym same ∙ sym (ap (λ (s : Series). s.kind) (made_is _ c.in_ok-rows.rows c.in_ok-rows.ensures)) ∙ sym (ap (λ (s : Series). s.kind) c.in_ok-push_rows.ensures.ok)
