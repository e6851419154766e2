use Rattle.std.proofs.Common.{◌≡◌, ◌<◌, ℕ, ℤ, ◌+◌, ◌%◌, ◌^◌, pos, to_z, Some, List, [], ◌∷◌, ◌++◌, length, sym, ◌∙◌, ap, arith}
use Rattle.std.specs.Prelude.{codes}
use Rattle.std.proofs.lemmas.List.FromFn.{length-map-range_with_len, map-range_with_len_more}
use Rattle.std.specs.Int.{w128}
use Rattle.std.proofs.lemmas.Int.{to_z_pos}
use Rattle.px_generated.specs.Generated.{column_of}
use Rattle.px_column.specs.Prelude.{Series, Slot, int64s, integer}
use Rattle.px_generated.proofs.columns.keys.Goals as goal

pub push-requires-clause-room : goal.push-requires-clause-room
push-requires-clause-room c =
    let many = ap (λ (s : Series). length s.slots) c.loop-row.invariant ∙ length-map-range_with_len (λ (i : ℕ). Some (integer (pos (i % 8)))) 0 c.loop-row.row in
    omega (arith, many, c.loop-row-test.true, c.ranges.height.fits)

-- a row more
row_more : (b c : Series) (row : ℕ) (z : ℤ) → b ≡ column_of (codes "k") (λ i. i % 8) row → z ≡ pos (row % 8) → c ≡ record b { slots = b.slots ++ Some (integer z) ∷ [] } → c ≡ column_of (codes "k") (λ i. i % 8) (row + 1)
row_more b c row z so_far is made =
    made ∙ ap (λ (y : ℤ). record b { slots = b.slots ++ Some (integer y) ∷ [] }) is ∙ ap (λ (d : Series). record d { slots = d.slots ++ Some (integer (pos (row % 8))) ∷ [] }) so_far
    ∙ ap (λ (xs : List Slot). record { name = codes "k"; kind = int64s; slots = xs }) (sym (map-range_with_len_more (λ (i : ℕ). Some (integer (pos (i % 8)))) 0 row row (omega arith)))

pub loop-row-preserved : goal.loop-row-preserved
loop-row-preserved c =
    let small : c.loop-row.row % 8 < 2 ^ 127 = omega (arith, c.loop-row-test.true, c.ranges.height.fits) in
    row_more c.loop-row.builder c.push.new.self c.loop-row.row (to_z w128 (c.loop-row.row % 8)) c.loop-row.invariant (to_z_pos w128 (c.loop-row.row % 8) small) c.in_ok-push.ensures.ok
