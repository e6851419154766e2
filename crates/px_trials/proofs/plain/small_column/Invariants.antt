use Rattle.std.proofs.Common.{◌≡◌, vec_len}
use Rattle.px_trials.proofs.plain.small_column.Given as goal

abbrev pub invariant-loop-row : goal.invariant-loop-row
invariant-loop-row l = vec_len l.rows ≡ l._row
