use Rattle.std.proofs.Common.{◌≡◌, ◌∙◌, [], ◌∷◌, Ok, ap}
use Rattle.px_value.specs.KindView.{kind_of}
use Rattle.px_value.specs.Series.{Series}
use Rattle.px_column.specs.Interval.{compared_kind}
use Rattle.px_column.proofs.Between.{compared_three}
use Rattle.px_column.proofs.Building.{made_is}
use Rattle.px_column.proofs.column.Column.between_column.Goals as goal

pub between_rows-requires-clause-kind : goal.between_rows-requires-clause-kind
between_rows-requires-clause-kind c =
    let self = c.args.self.now in
    let made : compared_kind self.kind (c.args.low.now.kind ∷ c.args.high.now.kind ∷ []) ≡ Ok (kind_of c.in_ok-dtype.dtype) = cc (c.in_ok-dtype.ensures, c.dtype.ensures, c.dtype-2.ensures, c.dtype-3.ensures) in
    ap (λ (s : Series). s.kind) (made_is _ c.in_ok-rows.rows c.in_ok-rows.ensures) ∙ (compared_three self.kind c.args.low.now.kind c.args.high.now.kind _ made).1.1

pub between_rows-requires-clause-low : goal.between_rows-requires-clause-low
between_rows-requires-clause-low c =
    let self = c.args.self.now in
    let made : compared_kind self.kind (c.args.low.now.kind ∷ c.args.high.now.kind ∷ []) ≡ Ok (kind_of c.in_ok-dtype.dtype) = cc (c.in_ok-dtype.ensures, c.dtype.ensures, c.dtype-2.ensures, c.dtype-3.ensures) in
    (compared_three self.kind c.args.low.now.kind c.args.high.now.kind (kind_of c.in_ok-dtype.dtype) made).0

pub between_rows-requires-clause-high : goal.between_rows-requires-clause-high
between_rows-requires-clause-high c =
    let self = c.args.self.now in
    let made : compared_kind self.kind (c.args.low.now.kind ∷ c.args.high.now.kind ∷ []) ≡ Ok (kind_of c.in_ok-dtype.dtype) = cc (c.in_ok-dtype.ensures, c.dtype.ensures, c.dtype-2.ensures, c.dtype-3.ensures) in
    (compared_three self.kind c.args.low.now.kind c.args.high.now.kind (kind_of c.in_ok-dtype.dtype) made).1.0
