use Rattle.std.proofs.Common.{◌≡◌, ◌-◌, ◌≤◌}
use Rattle.px_array.specs.Words.{set_bits}
use Rattle.px_array.proofs.words.count_places.Given as goal

abbrev pub invariant-loop-place : goal.invariant-loop-place
invariant-loop-place l = record {
  sum : l.count ≡ set_bits l.words l.from (l.place - l.from);
  few : l.count ≤ l.place - l.from;
}
