-- Bits that are set, counted place by place and word by word.
use Rattle.std.proofs.Common.{◌≡◌, ℕ, zero, suc, ◌+◌, ◌-◌, ◌*◌, ◌/◌, ◌%◌, ◌^◌, ◌<◌, ◌≤◌, ◌==◌, Bool, cond, List, slice_index, count_ones, refl, ap, sym, ◌∙◌, arith}
use Rattle.std.proofs.lemmas.List.FromFn.{length-range_with_len}
use Rattle.std.proofs.lemmas.List.Sums.{count_by-le-length, sum_by-cons}
use Rattle.std.specs.Int.{bit_at}
use Rattle.std.specs.List.{count_by, range_with_len}
use lib.Count.{ones_step}
use native.Mathlib.Nat.{div-div-eq-div-mul, pow-suc}
use Rattle.px_array.specs.Words.{set_bits, word_bit}

-- a number more that may hold a test
one_more : (p : ℕ → Bool) (i n : ℕ) → count_by p (range_with_len i (suc n)) ≡ cond (p i) 1 0 + count_by p (range_with_len (i + 1) n)
one_more p i n = sum_by-cons (λ x. cond (p x) 1 0) i (range_with_len (i + 1) n)

-- one place more at the front
pub set_bits-next : (ws : List ℕ) (i n : ℕ) → set_bits ws i (suc n) ≡ cond (word_bit ws i) 1 0 + set_bits ws (i + 1) n
set_bits-next ws i n = one_more (word_bit ws) i n

-- places that follow one another
pub set_bits-split : (ws : List ℕ) (i m n : ℕ) → set_bits ws i (m + n) ≡ set_bits ws i m + set_bits ws (i + m) n
set_bits-split ws i zero n =
    let e : i + 0 ≡ i = omega arith in
    let f : 0 + n ≡ n = omega arith in
    let same : set_bits ws i (0 + n) ≡ set_bits ws (i + 0) n = ap (set_bits ws i) f ∙ ap (λ j. set_bits ws j n) (sym e) in
    omega (arith, same)
set_bits-split ws i (suc m) n =
    let e : i + 1 + m ≡ i + suc m = omega arith in
    let f : suc m + n ≡ suc (m + n) = omega arith in
    let rest : set_bits ws (i + 1) (m + n) ≡ set_bits ws (i + 1) m + set_bits ws (i + suc m) n = set_bits-split ws (i + 1) m n ∙ ap (λ j. set_bits ws (i + 1) m + set_bits ws j n) e in
    let all : set_bits ws i (suc m + n) ≡ cond (word_bit ws i) 1 0 + set_bits ws (i + 1) (m + n) = ap (set_bits ws i) f ∙ set_bits-next ws i (m + n) in
    omega (arith, rest, all, set_bits-next ws i m)

-- a bit is its own number
bit_counts : (n : ℕ) → n < 2 → cond (n == 1) 1 0 ≡ n
bit_counts zero h = refl
bit_counts (suc zero) h = refl
bit_counts (suc (suc n)) h = absurd (omega (arith, h))

-- the bits of a number from a place on
bits_of : (n m k : ℕ) → count_by (λ i. bit_at n i == 1) (range_with_len m k) + count_ones (n / 2 ^ (m + k)) ≡ count_ones (n / 2 ^ m)
bits_of n m zero =
    let e : m + 0 ≡ m = omega arith in
    let same : count_ones (n / 2 ^ (m + 0)) ≡ count_ones (n / 2 ^ m) = ap (λ j. count_ones (n / 2 ^ j)) e in
    omega (arith, same)
bits_of n m (suc k) =
    let e : m + suc k ≡ m + 1 + k = omega arith in
    let last : count_ones (n / 2 ^ (m + suc k)) ≡ count_ones (n / 2 ^ (m + 1 + k)) = ap (λ j. count_ones (n / 2 ^ j)) e in
    let f : m + 1 ≡ suc m = omega arith in
    let half : n / 2 ^ m / 2 ≡ n / 2 ^ (m + 1) = div-div-eq-div-mul n (2 ^ m) 2 ∙ ap (λ j. n / j) (sym (pow-suc 2 m)) ∙ ap (λ j. n / 2 ^ j) (sym f) in
    let step : count_ones (n / 2 ^ m) ≡ n / 2 ^ m % 2 + count_ones (n / 2 ^ (m + 1)) = ones_step (n / 2 ^ m) ∙ ap (λ j. n / 2 ^ m % 2 + count_ones j) half in
    let low : n / 2 ^ m % 2 < 2 = omega arith in
    let bit : cond (bit_at n m == 1) 1 0 ≡ n / 2 ^ m % 2 = bit_counts (n / 2 ^ m % 2) low in
    omega (arith, bits_of n (m + 1) k, last, step, bit, one_more (λ i. bit_at n i == 1) m k)

-- the bits of a word, from one of its places on
in_word : (ws : List ℕ) (j i k : ℕ) → i + k ≤ 64 → set_bits ws (64 * j + i) k ≡ count_by (λ p. bit_at (slice_index ws j) p == 1) (range_with_len i k)
in_word ws j i zero h = refl
in_word ws j i (suc k) h =
    let e : 64 * j + i + 1 ≡ 64 * j + (i + 1) = omega arith in
    let here : (64 * j + i) / 64 ≡ j = omega (arith, h) in
    let place : (64 * j + i) % 64 ≡ i = omega (arith, h) in
    let bit : word_bit ws (64 * j + i) ≡ (bit_at (slice_index ws j) i == 1) = (λ p. bit_at (slice_index ws (here p)) (place p) == 1) in
    let rest : set_bits ws (64 * j + i + 1) k ≡ count_by (λ p. bit_at (slice_index ws j) p == 1) (range_with_len (i + 1) k) = ap (λ p. set_bits ws p k) e ∙ in_word ws j (i + 1) k (omega (arith, h)) in
    set_bits-next ws (64 * j + i) k ∙ (λ p. cond (bit p) 1 0 + rest p) ∙ sym (one_more (λ p. bit_at (slice_index ws j) p == 1) i k)

-- the bits of a whole word
pub word_ones : (ws : List ℕ) (j : ℕ) → slice_index ws j < 2 ^ 64 → set_bits ws (64 * j) 64 ≡ count_ones (slice_index ws j)
unfolding lib.Count.ones
word_ones ws j h =
    let e : 64 * j ≡ 64 * j + 0 = omega arith in
    let none : slice_index ws j / 2 ^ (0 + 64) ≡ 0 = omega (arith, h) in
    let whole : slice_index ws j / 2 ^ 0 ≡ slice_index ws j = omega arith in
    let above : count_ones (slice_index ws j / 2 ^ (0 + 64)) ≡ 0 = ap count_ones none in
    let all : count_ones (slice_index ws j / 2 ^ 0) ≡ count_ones (slice_index ws j) = ap count_ones whole in
    omega (arith, ap (λ p. set_bits ws p 64) e ∙ in_word ws j 0 64 (omega arith), bits_of (slice_index ws j) 0 64, above, all)

-- one word more
pub words_next : (ws : List ℕ) (a j : ℕ) → a ≤ j → slice_index ws j < 2 ^ 64 → set_bits ws (64 * a) (64 * (j + 1 - a)) ≡ set_bits ws (64 * a) (64 * (j - a)) + count_ones (slice_index ws j)
words_next ws a j h w =
    let e : 64 * (j + 1 - a) ≡ 64 * (j - a) + 64 = omega (arith, h) in
    let f : 64 * a + 64 * (j - a) ≡ 64 * j = omega (arith, h) in
    let split : set_bits ws (64 * a) (64 * (j - a) + 64) ≡ set_bits ws (64 * a) (64 * (j - a)) + set_bits ws (64 * j) 64 = set_bits-split ws (64 * a) (64 * (j - a)) 64 ∙ ap (λ p. set_bits ws (64 * a) (64 * (j - a)) + set_bits ws p 64) f in
    ap (set_bits ws (64 * a)) e ∙ split ∙ ap (λ n. set_bits ws (64 * a) (64 * (j - a)) + n) (word_ones ws j w)

-- one place more at the end
pub places_next : (ws : List ℕ) (a i : ℕ) → a ≤ i → set_bits ws a (i + 1 - a) ≡ set_bits ws a (i - a) + cond (word_bit ws i) 1 0
places_next ws a i h =
    let e : i + 1 - a ≡ (i - a) + 1 = omega (arith, h) in
    let f : a + (i - a) ≡ i = omega (arith, h) in
    let one : set_bits ws i 1 ≡ cond (word_bit ws i) 1 0 = omega (arith, set_bits-next ws i 0) in
    ap (set_bits ws a) e ∙ set_bits-split ws a (i - a) 1 ∙ ap (λ p. set_bits ws a (i - a) + set_bits ws p 1) f ∙ ap (λ n. set_bits ws a (i - a) + n) one

-- places up to a word, whole words, and places behind them
pub three_parts : (ws : List ℕ) (f a b e x y z : ℕ) → f ≤ 64 * a → a ≤ b → 64 * b ≤ e → x ≡ set_bits ws f (64 * a - f) → y ≡ set_bits ws (64 * a) (64 * (b - a)) → z ≡ set_bits ws (64 * b) (e - 64 * b) → x + y + z ≡ set_bits ws f (e - f)
three_parts ws f a b e x y z h i j p q r =
    let n : e - f ≡ (64 * a - f) + (64 * (b - a) + (e - 64 * b)) = omega (arith, h, i, j) in
    let s : f + (64 * a - f) ≡ 64 * a = omega (arith, h) in
    let t : 64 * a + 64 * (b - a) ≡ 64 * b = omega (arith, i) in
    let first : set_bits ws f (e - f) ≡ set_bits ws f (64 * a - f) + set_bits ws (64 * a) (64 * (b - a) + (e - 64 * b)) = ap (set_bits ws f) n ∙ set_bits-split ws f (64 * a - f) (64 * (b - a) + (e - 64 * b)) ∙ ap (λ k. set_bits ws f (64 * a - f) + set_bits ws k (64 * (b - a) + (e - 64 * b))) s in
    let second : set_bits ws (64 * a) (64 * (b - a) + (e - 64 * b)) ≡ set_bits ws (64 * a) (64 * (b - a)) + set_bits ws (64 * b) (e - 64 * b) = set_bits-split ws (64 * a) (64 * (b - a)) (e - 64 * b) ∙ ap (λ k. set_bits ws (64 * a) (64 * (b - a)) + set_bits ws k (e - 64 * b)) t in
    omega (arith, first, second, p, q, r)

-- no more bits than places
pub set_bits-le : (ws : List ℕ) (i n : ℕ) → set_bits ws i n ≤ n
set_bits-le ws i n = omega (arith, count_by-le-length (word_bit ws) (range_with_len i n), length-range_with_len i n)
