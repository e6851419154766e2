-- One bit set in a list of words.
use Rattle.std.proofs.Common.{◌≡◌, ◌≢◌, ℕ, ◌*◌, ◌/◌, ◌%◌, ◌^◌, ◌<◌, ◌==◌, Bool, true, false, List, length, refl, ap, sym, ◌∙◌, arith, get_or-set_same, get_or-set_other, slice_set, slice_index, bit_or, w64}
use Rattle.std.proofs.lemmas.Grind.{get_or-set_at}
use Rattle.std.proofs.lemmas.Bool.Decides.{nat_tests}
use Rattle.std.proofs.lemmas.Nat.Bits.{bit_at_set_same, bit_at_set_other}
use Rattle.std.specs.Int.{bit_at}
use Rattle.px_array.specs.Words.{word_bit}

-- the words with the bit of a place set
abbrev pub bit_set : List ℕ → ℕ → List ℕ
bit_set ws i = slice_set ws (i / 64) (bit_or (slice_index ws (i / 64)) (1 * 2 ^ (i % 64) % 2 ^ 64))

pub bit_set_here : (ws : List ℕ) (i : ℕ) → i < 64 * length ws → word_bit (bit_set ws i) i ≡ true
bit_set_here ws i h =
    let lt : i / 64 < length ws = omega arith in
    let bits : i % 64 < 64 = omega arith in
    ap (λ n. bit_at n (i % 64) == 1) (get_or-set_same ws (i / 64) _ 0 lt) ∙ ap (λ n. n == 1) (bit_at_set_same w64 (slice_index ws (i / 64)) (i % 64) bits)

pub bit_set_others : (ws : List ℕ) (i k : ℕ) → i < 64 * length ws → k ≢ i → word_bit (bit_set ws i) k ≡ word_bit ws k
bit_set_others ws i k h n = by (k / 64 == i / 64) refl
  where
    by : (b : Bool) → (k / 64 == i / 64) ≡ b → word_bit (bit_set ws i) k ≡ word_bit ws k
    by true e =
        let same : k / 64 ≡ i / 64 = grind (arith, nat_tests) in
        let other : k % 64 ≢ i % 64 = λ m. n (omega (arith, same, m)) in
        let lt : i / 64 < length ws = omega arith in
        let bits : i % 64 < 64 = omega arith in
        ap (λ n. bit_at n (k % 64) == 1) (get_or-set_at ws (i / 64) (k / 64) _ 0 same lt)
        ∙ ap (λ n. n == 1) (bit_at_set_other w64 (slice_index ws (i / 64)) (i % 64) bits (k % 64) other)
        ∙ ap (λ j. bit_at (slice_index ws j) (k % 64) == 1) (sym same)
    by false e =
        let other : k / 64 ≢ i / 64 = grind (arith, nat_tests) in
        ap (λ n. bit_at n (k % 64) == 1) (get_or-set_other ws (i / 64) (k / 64) _ 0 other)
