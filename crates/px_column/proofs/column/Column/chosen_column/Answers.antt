use Rattle.std.proofs.Common.{◌≡◌, rules, true}
use Rattle.px_value.specs.Kind.{kind_eq}
use Rattle.px_column.proofs.Operating.{kind_same}
use Rattle.px_column.proofs.column.Column.chosen_column.Goals as goal

pub chosen_rows-requires-clause-kind : goal.chosen_rows-requires-clause-kind
chosen_rows-requires-clause-kind c =
    let test : kind_eq c.args.self.now.kind c.args.other.now.kind ≡ true = search rules in
    kind_same c.args.self.now.kind c.args.other.now.kind test
