-- Nulls among places, counted by their bits.
use Rattle.std.proofs.Common.{◌≡◌, ℕ, zero, suc, ◌+◌, ◌<◌, ◌≤◌, Bool, true, false, not, cond, List, [], ◌∷◌, length, map, Option, Some, None, is_none, slice_get, refl, ap, sym, ◌∙◌, arith, true≢false}
use Rattle.std.proofs.lemmas.List.Sums.{sum_by-cons}
use Rattle.std.specs.List.{count_by, range_with_len}
use Rattle.std.specs.Option.{option_map}
use Rattle.std.proofs.Common.{Global}
use Rattle.std.specs.declared.rc.Rc.{Rc}
use Rattle.px_value.specs.Datum.{Datum, Slot}
use Rattle.px_value.specs.View.{slot_of}
use Rattle.px_value.specs.declared.value.Value.{Value}
use Rattle.px_array.specs.Inside.{inner_slot}
use Rattle.px_array.specs.declared.array.Inner.{Inner}
use Rattle.px_array.specs.declared.array.Inner.TheVariants.{Constant, SameList}
use Rattle.px_array.proofs.Counting.{set_bits-next}
use Rattle.px_array.specs.Lanes.{Holds, has_values, lane_slot}
use Rattle.px_array.specs.Words.{set_bits, word_bit}
use Rattle.px_array.specs.declared.lanes.Lanes.{Lanes}
use Rattle.px_array.specs.declared.lanes.Lanes.TheVariants.{Ints, UInts, Bools, Texts, Bytes, Lists, Nulls}

only_if : (b : Bool) (x : Datum) → is_none (cond b (Some x) None) ≡ not b
only_if true x = refl
only_if false x = refl

there : {A : Type 0} (f : A → Datum) (xs : List A) (i : ℕ) → i < length xs → is_none (option_map f (slice_get xs i)) ≡ false
there f [] i h = absurd (omega (arith, h))
there f (x ∷ xs) zero h = refl
there f (x ∷ xs) (suc i) h = there f xs i (omega (arith, h))

there_if : {A : Type 0} (b : Bool) (f : A → Datum) (xs : List A) (i : ℕ) → i < length xs → is_none (cond b (option_map f (slice_get xs i)) None) ≡ not b
there_if true f xs i h = there f xs i h
there_if false f xs i h = refl

-- a place is a null where its bit is not set
lane_null : (f : Lanes) (ws : List ℕ) (m i : ℕ) → has_values f ≡ true → Holds f m → i < m → is_none (lane_slot f ws i) ≡ not (word_bit ws i)
lane_null (Ints v) ws m i h c l = only_if (word_bit ws i) _
lane_null (UInts v) ws m i h c l = only_if (word_bit ws i) _
lane_null (Bools v) ws m i h c l = only_if (word_bit ws i) _
lane_null (Texts v) ws m i h c l = there_if (word_bit ws i) _ v.items i (omega (arith, c, l))
lane_null (Bytes v) ws m i h c l = there_if (word_bit ws i) _ v.items i (omega (arith, c, l))
lane_null (Lists v) ws m i h c l = there_if (word_bit ws i) _ v.items i (omega (arith, c, l))
lane_null Nulls ws m i h c l = absurd (true≢false (sym h))

-- one place more at the front
null_next : (g : ℕ → Slot) (a n : ℕ) → count_by is_none (map g (range_with_len a (suc n))) ≡ cond (is_none (g a)) 1 0 + count_by is_none (map g (range_with_len (a + 1) n))
null_next g a n = sum_by-cons (λ x. cond (is_none x) 1 0) (g a) (map g (range_with_len (a + 1) n))

either : (b : Bool) → ◌≡◌ {A = ℕ} (cond (not b) 1 0 + cond b 1 0) 1
either true = refl
either false = refl

-- nulls and set bits are all places
pub nulls_and_bits : (f : Lanes) (ws : List ℕ) (m a n : ℕ) → has_values f ≡ true → Holds f m → a + n ≤ m → count_by is_none (map (lane_slot f ws) (range_with_len a n)) + set_bits ws a n ≡ n
nulls_and_bits f ws m a zero h c l = refl
nulls_and_bits f ws m a (suc n) h c l =
    let rest = nulls_and_bits f ws m (a + 1) n h c (omega (arith, l)) in
    let null : ◌≡◌ {A = ℕ} (cond (is_none (lane_slot f ws a)) 1 0) (cond (not (word_bit ws a)) 1 0) = ap (λ b. cond b 1 0) (lane_null f ws m a h c (omega (arith, l))) in
    omega (arith, rest, null, either (word_bit ws a), null_next (lane_slot f ws) a n, set_bits-next ws a n)

-- places that are all nulls, and places of which none is
pub all_null : (g : ℕ → Slot) (a n : ℕ) → ((i : ℕ) → is_none (g i) ≡ true) → count_by is_none (map g (range_with_len a n)) ≡ n
all_null g a zero h = refl
all_null g a (suc n) h =
    let one : ◌≡◌ {A = ℕ} (cond (is_none (g a)) 1 0) 1 = ap (λ b. cond b 1 0) (h a) in
    omega (arith, all_null g (a + 1) n h, one, null_next g a n)

pub none_null : (g : ℕ → Slot) (a n : ℕ) → ((i : ℕ) → is_none (g i) ≡ false) → count_by is_none (map g (range_with_len a n)) ≡ 0
none_null g a zero h = refl
none_null g a (suc n) h =
    let none : ◌≡◌ {A = ℕ} (cond (is_none (g a)) 1 0) 0 = ap (λ b. cond b 1 0) (h a) in
    omega (arith, none_null g (a + 1) n h, none, null_next g a n)

-- nulls alone
pub null_lane : (f : Lanes) (ws : List ℕ) (i : ℕ) → has_values f ≡ false → is_none (lane_slot f ws i) ≡ true
null_lane Nulls ws i h = refl
null_lane (Ints v) ws i h = absurd (true≢false h)
null_lane (UInts v) ws i h = absurd (true≢false h)
null_lane (Bools v) ws i h = absurd (true≢false h)
null_lane (Texts v) ws i h = absurd (true≢false h)
null_lane (Bytes v) ws i h = absurd (true≢false h)
null_lane (Lists v) ws i h = absurd (true≢false h)

none_slot : (o : Option Value) → is_none (slot_of o) ≡ is_none o
none_slot None = refl
none_slot (Some v) = refl

-- one value for all places is null everywhere or nowhere, and a list is nowhere
pub constant_null : (x : Inner) (o : Option Value) (b : Bool) → x ≡ Constant o → is_none o ≡ b → (i : ℕ) → is_none (inner_slot x i) ≡ b
constant_null x o b e h i = ap (λ (y : Inner). is_none (inner_slot y i)) e ∙ none_slot o ∙ h

pub same_list_present : (x : Inner) (xs : Rc (List Slot) Global) → x ≡ SameList xs → (i : ℕ) → is_none (inner_slot x i) ≡ false
same_list_present x xs e i = ap (λ (y : Inner). is_none (inner_slot y i)) e
