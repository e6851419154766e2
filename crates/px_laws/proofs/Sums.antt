-- A sum of sums, each modulo the type's width, is the whole sum modulo it.
use Rattle.std.proofs.Common.{◌≡◌, ℕ, ◌+◌, ◌^◌, ◌<◌, ℤ, pos, ◌+ℤ◌, true, List, [], ◌∷◌, ◌++◌, Some, map, fold, refl, sym, ◌∙◌, ap, arith}
use Rattle.std.specs.List.{flat_map}
use Rattle.std.specs.Int.{w32, w64, int_wrap, cast_signed, cast_unsigned}
use Rattle.std.proofs.Math.Nat.{mod-eq_of_lt}
use Rattle.std.proofs.lemmas.Int.{ints, int_wrap_fits, int_wrap-add_right, int_wrap-add_same, SFits-int_wrap, of_z-to_z}
use Rattle.std.proofs.lemmas.List.{map-append}
use Rattle.std.proofs.lemmas.Grind.{fold-append}
use Rattle.px_column.specs.Prelude.{integer, Slot, Kind, booleans, int8s, int16s, int32s, int64s, uint8s, uint16s, uint32s, uint64s, strings, binaries, nulls, lists}
use Rattle.px_column.specs.Reduction.{count_slot}
use Rattle.px_column.specs.Sum.{addend, total, wrapped, is_sum_kind, summed}
use Rattle.px_column.specs.Wrap.{low_bits}
use Rattle.px_operation.proofs.WrapLaws.{low_bits_lt}

-- the numbers that a type of sums tells apart are those that a width does
record Wraps (k : Kind) : Type 0 where
  rest : ℤ → ℤ
  same : (x y : ℤ) → rest x ≡ rest y → wrapped k x ≡ wrapped k y
  once : (z : ℤ) → rest (wrapped k z) ≡ rest z
  left : (x y b : ℤ) → rest x ≡ rest y → rest (x +ℤ b) ≡ rest (y +ℤ b)
  right : (a b : ℤ) → rest (a +ℤ rest b) ≡ rest (a +ℤ b)

-- a number modulo 2^32, read with a sign
int32_is : (z : ℤ) → int_wrap w32 z ≡ wrapped int32s z
unfolding int_wrap
int32_is z = refl

-- a number modulo 2^64, read with a sign
int64_is : (z : ℤ) → int_wrap w64 z ≡ wrapped int64s z
unfolding int_wrap
int64_is z = refl

-- without a sign it is the lowest 32 bits
low32_is : (z : ℤ) → cast_unsigned w32 (int_wrap w32 z) ≡ low_bits 32 z
unfolding int_wrap
low32_is z = of_z-to_z w32 (low_bits 32 z) (low_bits_lt 32 z (omega arith))

-- without a sign it is the lowest 64 bits
low64_is : (z : ℤ) → cast_unsigned w64 (int_wrap w64 z) ≡ low_bits 64 z
unfolding int_wrap
low64_is z = of_z-to_z w64 (low_bits 64 z) (low_bits_lt 64 z (omega arith))

-- a number of so few bits stays as it is
low_once : (n m : ℕ) → m < 2 ^ n → low_bits n (pos m) ≡ m
low_once n m h = mod-eq_of_lt h

-- what is left in 32 bits is left again
low32_once : (z : ℤ) → int_wrap w32 (pos (low_bits 32 z)) ≡ int_wrap w32 z
unfolding int_wrap
low32_once z = ap (cast_signed w32) (low_once 32 (low_bits 32 z) (low_bits_lt 32 z (omega arith)))

-- what is left in 64 bits is left again
low64_once : (z : ℤ) → int_wrap w64 (pos (low_bits 64 z)) ≡ int_wrap w64 z
unfolding int_wrap
low64_once z = ap (cast_signed w64) (low_once 64 (low_bits 64 z) (low_bits_lt 64 z (omega arith)))

-- Int32 is read in 32 bits
int32_wraps : Wraps int32s
int32_wraps = record {
  rest = int_wrap w32;
  same = λ x y h. sym (int32_is x) ∙ h ∙ int32_is y;
  once = λ z. ap (int_wrap w32) (sym (int32_is z)) ∙ int_wrap_fits w32 (int_wrap w32 z) (SFits-int_wrap w32 z);
  left = λ x y b h. int_wrap-add_same w32 x y b h;
  right = int_wrap-add_right w32;
}

-- Int64 is read in 64 bits
int64_wraps : Wraps int64s
int64_wraps = record {
  rest = int_wrap w64;
  same = λ x y h. sym (int64_is x) ∙ h ∙ int64_is y;
  once = λ z. ap (int_wrap w64) (sym (int64_is z)) ∙ int_wrap_fits w64 (int_wrap w64 z) (SFits-int_wrap w64 z);
  left = λ x y b h. int_wrap-add_same w64 x y b h;
  right = int_wrap-add_right w64;
}

-- UInt32 is read in 32 bits
uint32_wraps : Wraps uint32s
uint32_wraps = record {
  rest = int_wrap w32;
  same = λ x y h. ap pos (sym (low32_is x) ∙ ap (cast_unsigned w32) h ∙ low32_is y);
  once = low32_once;
  left = λ x y b h. int_wrap-add_same w32 x y b h;
  right = int_wrap-add_right w32;
}

-- UInt64 is read in 64 bits
uint64_wraps : Wraps uint64s
uint64_wraps = record {
  rest = int_wrap w64;
  same = λ x y h. ap pos (sym (low64_is x) ∙ ap (cast_unsigned w64) h ∙ low64_is y);
  once = low64_once;
  left = λ x y b h. int_wrap-add_same w64 x y b h;
  right = int_wrap-add_right w64;
}

-- each type of sums has its width
wraps : (k : Kind) → is_sum_kind k ≡ true → Wraps k
wraps int32s h = int32_wraps
wraps int64s h = int64_wraps
wraps uint32s h = uint32_wraps
wraps uint64s h = uint64_wraps
wraps booleans h = cc
wraps int8s h = cc
wraps int16s h = cc
wraps uint8s h = cc
wraps uint16s h = cc
wraps strings h = cc
wraps binaries h = cc
wraps nulls h = cc
wraps (lists k) h = cc

-- addition may be grouped either way
add_assoc_z : (a b c : ℤ) → (a +ℤ b) +ℤ c ≡ a +ℤ (b +ℤ c)
add_assoc_z a b c = omega (arith, ints)

-- nothing is added by 0 on the right
add_none_z : (a : ℤ) → a +ℤ pos 0 ≡ a
add_none_z a = omega (arith, ints)

-- nor on the left
none_add_z : (a : ℤ) → pos 0 +ℤ a ≡ a
none_add_z a = omega (arith, ints)

-- a sum from a start is the start and the sum
sum_from : (a b : ℤ) (zs : List ℤ) → fold ◌+ℤ◌ (a +ℤ b) zs ≡ a +ℤ fold ◌+ℤ◌ b zs
sum_from a b [] = refl
sum_from a b (z ∷ zs) = ap (λ c. fold ◌+ℤ◌ c zs) (add_assoc_z a b z) ∙ sum_from a (b +ℤ z) zs

-- the whole sum from a start
total_from : (b : ℤ) (xs : List Slot) → fold ◌+ℤ◌ b (map addend xs) ≡ b +ℤ total xs
total_from b xs = ap (λ c. fold ◌+ℤ◌ c (map addend xs)) (sym (add_none_z b)) ∙ sum_from b (pos 0) (map addend xs)

-- sums added from starts that are the same modulo the width
sums_from : (k : Kind) (w : Wraps k) (a b : ℤ) (xss : List (List Slot)) → w.rest a ≡ w.rest b
    → w.rest (fold ◌+ℤ◌ a (map addend (map (summed k) xss))) ≡ w.rest (fold ◌+ℤ◌ b (map addend (flat_map (λ (xs : List Slot). xs) xss)))
sums_from k w a b [] h = h
sums_from k w a b (xs ∷ xss) h =
    let t = total xs in
    let step : w.rest (a +ℤ wrapped k t) ≡ w.rest (b +ℤ t) =
    sym (w.right a (wrapped k t)) ∙ ap (λ z. w.rest (a +ℤ z)) (w.once t) ∙ w.right a t ∙ w.left a b t h in
    sums_from k w (a +ℤ wrapped k t) (b +ℤ t) xss step
    ∙ ap w.rest (ap (λ c. fold ◌+ℤ◌ c (map addend (flat_map (λ (ys : List Slot). ys) xss))) (sym (total_from b xs))
    ∙ sym (fold-append ◌+ℤ◌ b (map addend xs) (map addend (flat_map (λ (ys : List Slot). ys) xss)))
    ∙ ap (fold ◌+ℤ◌ b) (sym (map-append addend xs (flat_map (λ (ys : List Slot). ys) xss))))

-- the sum of the sums of some lists is that of all their places
pub sum_merges : (k : Kind) (xss : List (List Slot)) → is_sum_kind k ≡ true → summed k (flat_map (λ (xs : List Slot). xs) xss) ≡ summed k (map (summed k) xss)
sum_merges k xss h = let w = wraps k h in ap (λ z. Some (integer z)) (w.same _ _ (sym (sums_from k w (pos 0) (pos 0) xss refl)))

-- counts are added, where all of them together stay in the type
counts_from : {A : Type 0} (count : List A → ℕ) (n : ℕ) (xss : List (List A)) → count [] ≡ 0 → ((xs ys : List A) → count (xs ++ ys) ≡ count xs + count ys)
    → fold ◌+ℤ◌ (pos n) (map addend (map (λ xs. count_slot (count xs)) xss)) ≡ pos (n + count (flat_map (λ (xs : List A). xs) xss))
counts_from count n [] none more = ap pos (omega arith)
counts_from count n (xs ∷ xss) none more = counts_from count (n + count xs) xss none more ∙ ap pos (omega (arith, more xs (flat_map (λ ys. ys) xss)))

-- a count below 2^32 stays as it is
wrapped_below : (n : ℕ) → n < 2 ^ 32 → wrapped uint32s (pos n) ≡ pos n
wrapped_below n h = ap pos (low_once 32 n h)

-- the sum of counts is the count of all
pub count_merges : {A : Type 0} (count : List A → ℕ) (xss : List (List A)) → count [] ≡ 0 → ((xs ys : List A) → count (xs ++ ys) ≡ count xs + count ys)
    → count (flat_map (λ (xs : List A). xs) xss) < 2 ^ 32 → count_slot (count (flat_map (λ (xs : List A). xs) xss)) ≡ summed uint32s (map (λ xs. count_slot (count xs)) xss)
count_merges count xss none more h =
    let all : fold ◌+ℤ◌ (pos 0) (map addend (map (λ xs. count_slot (count xs)) xss)) ≡ pos (count (flat_map (λ xs. xs) xss)) = counts_from count 0 xss none more ∙ ap pos (omega arith) in
    ap (λ z. Some (integer z)) (sym (ap (wrapped uint32s) all ∙ wrapped_below (count (flat_map (λ xs. xs) xss)) h))
