use Rattle.std.proofs.Common.{◌≡◌, ℕ, suc, ◌+◌, ◌-◌, ◌<◌, ◌∷◌, refl, arith}
use Rattle.std.specs.List.{range_with_len}
use Rattle.std.proofs.lemmas.Grind.{common_steps}
use Rattle.px_text.proofs.frame.push_rows.Goals as goal

range_at : (a n : ℕ) → a < n → range_with_len a (n - a) ≡ a ∷ range_with_len (a + 1) (n - (a + 1))
range_at a n h = let e : n - a ≡ suc (n - (a + 1)) = omega arith in rw e refl

pub loop-row-preserved : goal.loop-row-preserved
loop-row-preserved c = let e = range_at c.loop-row.row c.args.height (omega arith) in grind (arith, common_steps)
