use Rattle.std.proofs.Common.{◌++◌, ◌∷◌, [], ◌∙◌, ap, sym, List, ℕ}
use Rattle.px_column.proofs.KeyLaws.{range_push}
use Rattle.px_vectors.proofs.plain_step.all_rows.Goals as goal

pub loop-row-preserved : goal.loop-row-preserved
loop-row-preserved c = c.in_ok-push.ensures.items ∙ ap (λ (ns : List ℕ). ns ++ c.loop-row.row ∷ []) c.loop-row.invariant ∙ sym (range_push c.loop-row.row)
