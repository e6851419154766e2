use Rattle.std.proofs.Common.{◌≡◌, ◌∙◌, ap, true, false}
use Rattle.px_column.specs.Equality.{row_eq}
use Rattle.px_column.specs.Key.{key_at}
use Rattle.px_vectors.proofs.PlainRows.{row_added, row_passed}
use Rattle.px_vectors.proofs.plain.rows_like.Goals as goal
use Rattle.px_vectors.proofs.plain.rows_like.Goals.{then-eq+in_ok-push, else-eq}

pub loop-row-preserved : goal.loop-row-preserved
loop-row-preserved c =
    let like = row_eq (key_at c.args.by.now c.args.first) in
    elim c.if-eq.branch [
      | then-eq+in_ok-push w ↦
          let same : like (key_at c.args.by.now c.loop-row.row) ≡ true = cc in
          row_added c.args.by.now like c.loop-row.row _ _ c.loop-row.invariant same (ap (λ v. v.items) w.rows-is ∙ w.in_ok-push.ensures.items)
      | else-eq w ↦
          let other : like (key_at c.args.by.now c.loop-row.row) ≡ false = cc in
          ap (λ v. v.items) w.rows-is ∙ row_passed c.args.by.now like c.loop-row.row _ c.loop-row.invariant other
    ]
