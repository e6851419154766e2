-- A range's integers fit its type.
use Rattle.std.proofs.Common.{◌≡◌, ℕ, zero, suc, ◌+◌, ◌<◌, ◌≤◌, ◌^◌, ℤ, pos, negsuc, ◌+ℤ◌, ◌-ℤ◌, Bool, true, false, cond, ◌&&◌, nat_lt, List, [], ◌∷◌, ◌++◌, Some, None, Result, Option, length, codes, subst, map, refl, sym, ◌∙◌, ap, arith}
use Rattle.std.specs.List.{range_with_len}
use Rattle.std.specs.Prelude.{if◌then◌else◌}
use Rattle.std.proofs.lemmas.Bool.Decides.{nat_tests}
use Rattle.std.proofs.lemmas.List.FromFn.{map-range_with_len_more, length-map-range_with_len}
use Rattle.std.proofs.lemmas.List.{length-map, map_push}
use Rattle.px_column.specs.Prelude.{Answers, integer, Slot, Kind, booleans, int8s, int16s, int32s, int64s, uint8s, uint16s, uint32s, uint64s, strings, binaries, nulls, lists, fits, slots_fit, Series, slot_of, slots_of}
use Rattle.px_column.specs.Column.{made}
use Rattle.px_column.specs.Kind.{is_signed, is_unsigned}
use Rattle.px_tree.specs.Node.{integers, natural}
use Rattle.px_value.specs.declared.error.PxError.{PxError}
use Rattle.px_value.specs.declared.value.Value.{Value}
use Rattle.px_tree.specs.Typing.{is_range_kind}
use Rattle.px_answers.specs.Literal.{range_column}
use Rattle.px_value.proofs.FitLaws.{both}

-- between two numbers of a range of numbers
signed_between : (n : ℕ) (low high z : ℤ) (i : ℕ) → z ≡ low +ℤ pos i → i < natural (high -ℤ low) → is_signed n low ≡ true → is_signed n high ≡ true → is_signed n z ≡ true
signed_between n (pos a) (pos b) (pos m) i e h l u = grind (arith, nat_tests)
signed_between n (pos a) (pos b) (negsuc m) i e h l u = grind (arith, nat_tests)
signed_between n (pos a) (negsuc b) z i e h l u = grind (arith, nat_tests)
signed_between n (negsuc a) (pos b) (pos m) i e h l u = grind (arith, nat_tests)
signed_between n (negsuc a) (pos b) (negsuc m) i e h l u = grind (arith, nat_tests)
signed_between n (negsuc a) (negsuc b) (pos m) i e h l u = grind (arith, nat_tests)
signed_between n (negsuc a) (negsuc b) (negsuc m) i e h l u = grind (arith, nat_tests)

unsigned_between : (n : ℕ) (low high z : ℤ) (i : ℕ) → z ≡ low +ℤ pos i → i < natural (high -ℤ low) → is_unsigned n low ≡ true → is_unsigned n high ≡ true → is_unsigned n z ≡ true
unsigned_between n (pos a) (pos b) (pos m) i e h l u = grind (arith, nat_tests)
unsigned_between n (pos a) (pos b) (negsuc m) i e h l u = grind (arith, nat_tests)
unsigned_between n (pos a) (negsuc b) z i e h l u = absurd (cc u)
unsigned_between n (negsuc a) high z i e h l u = absurd (cc l)

-- an integer of a range fits the range's type
fits_between : (k : Kind) (low high : ℤ) (i : ℕ) → is_range_kind k ≡ true → i < natural (high -ℤ low) → fits k (integer low) ≡ true → fits k (integer high) ≡ true → fits k (integer (low +ℤ pos i)) ≡ true
fits_between booleans low high i r h l u = absurd (cc r)
fits_between int8s low high i r h l u = absurd (cc r)
fits_between int16s low high i r h l u = absurd (cc r)
fits_between int32s low high i r h l u = signed_between 2147483648 low high (low +ℤ pos i) i refl h l u
fits_between int64s low high i r h l u = signed_between 9223372036854775808 low high (low +ℤ pos i) i refl h l u
fits_between uint8s low high i r h l u = absurd (cc r)
fits_between uint16s low high i r h l u = absurd (cc r)
fits_between uint32s low high i r h l u = unsigned_between 4294967296 low high (low +ℤ pos i) i refl h l u
fits_between uint64s low high i r h l u = absurd (cc r)
fits_between strings low high i r h l u = absurd (cc r)
fits_between binaries low high i r h l u = absurd (cc r)
fits_between nulls low high i r h l u = absurd (cc r)
fits_between (lists k) low high i r h l u = absurd (cc r)

-- each of them does
all_between : (k : Kind) (low high : ℤ) (a n : ℕ) → is_range_kind k ≡ true → a + n ≤ natural (high -ℤ low) → fits k (integer low) ≡ true → fits k (integer high) ≡ true
    → slots_fit k (map (λ i. Some (integer (low +ℤ pos i))) (range_with_len a n)) ≡ true
all_between k low high a zero r h l u = refl
all_between k low high a (suc n) r h l u =
    let first : a < natural (high -ℤ low) = omega (arith, h) in
    let rest : a + 1 + n ≤ natural (high -ℤ low) = omega (arith, h) in
    rw (fits_between k low high a r first l u) (all_between k low high (a + 1) n r rest l u)

-- the column of a range's integers is the range's
pub range_made : (k : Kind) (low high : ℤ) (xs : List Slot) (answer : Result Series PxError) → is_range_kind k ≡ true → (fits k (integer low) && fits k (integer high)) ≡ true → nat_lt (natural (high -ℤ low)) (2 ^ 32) ≡ true
    → xs ≡ integers low high → Answers answer (made (codes "literal") k xs) → Answers answer (range_column low high k)
range_made k low high xs answer r f n e a =
    let b = both (fits k (integer low)) (fits k (integer high)) f in
    let some : 0 + natural (high -ℤ low) ≤ natural (high -ℤ low) = omega arith in
    let fit = all_between k low high 0 (natural (high -ℤ low)) r some b.0 b.1 in
    rw (r, f, n) (subst (Answers answer) (rw (e, fit) refl) a)

-- as many rows as integers
pub rows_count : (low : ℤ) (n : ℕ) (rows : List (Option Value)) → slots_of rows ≡ map (λ i. Some (integer (low +ℤ pos i))) (range_with_len 0 n) → length rows ≡ n
rows_count low n rows h =
    sym (length-map rows slot_of) ∙ ap length h ∙ length-map-range_with_len (λ i. Some (integer (low +ℤ pos i))) 0 n

-- one more row is one more integer
pub row_more : (low : ℤ) (n : ℕ) (rows more : List (Option Value)) (v : Option Value) → more ≡ rows ++ v ∷ [] → slot_of v ≡ Some (integer (low +ℤ pos n)) → slots_of rows ≡ map (λ i. Some (integer (low +ℤ pos i))) (range_with_len 0 n)
    → slots_of more ≡ map (λ i. Some (integer (low +ℤ pos i))) (range_with_len 0 (n + 1))
row_more low n rows more v e s h =
    let at : 0 + n ≡ n = omega arith in
    rw (e, map_push slot_of rows v, h, s, map-range_with_len_more (λ i. Some (integer (low +ℤ pos i))) 0 n n at) refl

-- what a number that is told only below a limit says
pub few_enough : (n limit : ℕ) (o : Option ℕ) (count : ℕ) → o ≡ (if nat_lt n limit then Some n else None) → o ≡ Some count → nat_lt n limit ≡ true
few_enough n limit o count h e = by (nat_lt n limit) (sym h ∙ e)
  where
    by : (b : Bool) → cond b (Some n) None ≡ Some count → b ≡ true
    by true g = refl
    by false g = absurd (cc g)

pub count_is : (n limit : ℕ) (o : Option ℕ) (count : ℕ) → o ≡ (if nat_lt n limit then Some n else None) → o ≡ Some count → count ≡ n
count_is n limit o count h e = by (nat_lt n limit) (sym h ∙ e)
  where
    by : (b : Bool) → cond b (Some n) None ≡ Some count → count ≡ n
    by true g = cc
    by false g = absurd (cc g)
