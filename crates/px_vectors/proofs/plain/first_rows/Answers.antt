use Rattle.std.proofs.Common.{◌≡◌, ◌∙◌, ap, true, false, map}
use Rattle.std.specs.List.{list_any}
use Rattle.px_column.specs.Equality.{row_eq}
use Rattle.px_column.specs.Key.{key_at}
use Rattle.px_vectors.proofs.PlainRows.{first_added, first_kept}
use Rattle.px_vectors.proofs.plain.first_rows.Goals as goal
use Rattle.px_vectors.proofs.plain.first_rows.Goals.{then-not-has_key_of+in_ok-push, else-not-has_key_of}

pub loop-row-preserved : goal.loop-row-preserved
loop-row-preserved c =
    elim c.if-not-has_key_of.branch [
      | then-not-has_key_of+in_ok-push w ↦
          let new : list_any (row_eq (key_at c.args.by.now c.loop-row.row)) (map (key_at c.args.by.now) c.loop-row.firsts.items) ≡ false = cc in
          first_added c.args.by.now c.loop-row.row _ _ c.loop-row.invariant new (ap (λ v. v.items) w.firsts-is ∙ w.in_ok-push.ensures.items)
      | else-not-has_key_of w ↦
          let old : list_any (row_eq (key_at c.args.by.now c.loop-row.row)) (map (key_at c.args.by.now) c.loop-row.firsts.items) ≡ true = cc in
          ap (λ v. map (key_at c.args.by.now) v.items) w.firsts-is ∙ first_kept c.args.by.now c.loop-row.row _ c.loop-row.invariant old
    ]
