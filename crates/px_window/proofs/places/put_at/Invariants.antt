use Rattle.std.proofs.Common.{◌≡◌, ℕ, ◌<◌, get_or, length}
use Rattle.px_window.proofs.places.put_at.Given as goal

abbrev pub invariant-loop-index : goal.invariant-loop-index
invariant-loop-index l = record {
  long : length l.placed.items ≡ l.height;
  put : (k : ℕ) → k < l.index → get_or l.placed.items (get_or l.rows k 0) 0 ≡ get_or l.numbers k 0;
}
