-- One place more of an array that is being built.
use Rattle.std.proofs.Common.{◌≡◌, ◌≢◌, ℕ, ◌+◌, ◌*◌, ◌^◌, ◌<◌, ◌≤◌, Bool, true, List, [], ◌∷◌, ◌++◌, if◌then◌else◌, Some, None, Result, Ok, Err, OnErr, length, ap, refl, ◌∙◌, arith, pos, slice_index, slice_index_or, slice_get}
use Rattle.std.specs.Option.{option_map}
use Rattle.std.proofs.lemmas.List.FromFn.{length-map-range_with_len, map-range_with_len_more}
use Rattle.px_value.proofs.FitLaws.{all_push}
use Rattle.px_value.specs.Datum.{Slot, boolean, integer, text, bytes, list, slots}
use Rattle.px_value.specs.Kind.{Kind, slot_fits, slots_fit}
use Rattle.px_array.specs.Words.{word_bit}
use Rattle.px_array.specs.Lanes.{Holds, IsFor, lane_slot}
use Rattle.px_array.specs.Inside.{IsBuilt, stored}
use Rattle.px_array.specs.declared.lanes.Lanes.{Lanes}
use Rattle.px_array.specs.declared.lanes.Lanes.TheVariants.{Ints, UInts, Bools, Texts, Bytes, Lists, Nulls}
use Rattle.px_array.proofs.Windows.{same_below}

-- a place is read through its own bit alone
same_bit : (f : Lanes) (ws us : List ℕ) (i : ℕ) → word_bit us i ≡ word_bit ws i → lane_slot f us i ≡ lane_slot f ws i
same_bit (Ints v) ws us i h = ap (λ b. if b then Some (integer (slice_index_or v.items i (pos 0))) else None) h
same_bit (UInts v) ws us i h = ap (λ b. if b then Some (integer (pos (slice_index v.items i))) else None) h
same_bit (Bools v) ws us i h = ap (λ b. if b then Some (boolean (word_bit v.items i)) else None) h
same_bit (Texts v) ws us i h = ap (λ b. if b then option_map text (slice_get v.items i) else None) h
same_bit (Bytes v) ws us i h = ap (λ b. if b then option_map bytes (slice_get v.items i) else None) h
same_bit (Lists v) ws us i h = ap (λ b. if b then option_map (λ xs. list (slots xs)) (slice_get v.items i) else None) h
same_bit Nulls ws us i h = refl

-- values and words that are the same below n
pub kept : (f g : Lanes) (ws us : List ℕ) (n : ℕ) → ((i : ℕ) → i < n → word_bit us i ≡ word_bit ws i) → ((w : List ℕ) (i : ℕ) → i < n → lane_slot g w i ≡ lane_slot f w i)
    → stored g us n ≡ stored f ws n
kept f g ws us n bits same = same_below (lane_slot g us) (lane_slot f ws) 0 n (λ i h. let l : i < n = omega (arith, h) in same us i l ∙ same_bit f ws us i (bits i l))

-- values that were not added leave the places as they were
pub kept_built : (k : Kind) (f g : Lanes) (ws us : List ℕ) (n : ℕ) → IsBuilt k f ws n → n ≤ 64 * length us → ((i : ℕ) → word_bit us i ≡ word_bit ws i) → IsFor k g → Holds g n
    → ((w : List ℕ) (i : ℕ) → i < n → lane_slot g w i ≡ lane_slot f w i) → IsBuilt k g us n
kept_built k f g ws us n e room bits for_kind holds same = record {
  for_kind = for_kind;
  store = record { holds = holds; words = record { room = room; clear = λ i h. bits i ∙ e.store.words.clear i h } };
  column = record {
    fit = ap (slots_fit k) (kept f g ws us n (λ i _. bits i) same) ∙ e.column.fit;
    short = omega (arith, e.column.short, length-map-range_with_len (lane_slot f ws) 0 n, length-map-range_with_len (lane_slot g us) 0 n);
  };
}

-- one place more
pub grown : (f g : Lanes) (ws us vs : List ℕ) (n : ℕ) (b : Bool) (s : Slot) → ((i : ℕ) → word_bit us i ≡ word_bit ws i) → ((w : List ℕ) (i : ℕ) → i < n → lane_slot g w i ≡ lane_slot f w i)
    → ((w : List ℕ) → word_bit w n ≡ b → lane_slot g w n ≡ s) → word_bit vs n ≡ b → ((i : ℕ) → i ≢ n → word_bit vs i ≡ word_bit us i) → stored g vs (n + 1) ≡ stored f ws n ++ s ∷ []
grown f g ws us vs n b s bits same here put others =
    map-range_with_len_more (lane_slot g vs) 0 n n (omega arith)
    ∙ (λ i. kept f g ws vs n (λ j l. others j (λ e. omega (arith, l, e)) ∙ bits j) same i ++ here vs put i ∷ [])

pub grown_built : (k : Kind) (f g : Lanes) (ws us vs : List ℕ) (n : ℕ) (b : Bool) (s : Slot) → IsBuilt k f ws n → ((i : ℕ) → word_bit us i ≡ word_bit ws i) → IsFor k g → Holds g (n + 1)
    → ((w : List ℕ) (i : ℕ) → i < n → lane_slot g w i ≡ lane_slot f w i) → ((w : List ℕ) → word_bit w n ≡ b → lane_slot g w n ≡ s) → word_bit vs n ≡ b
    → ((i : ℕ) → i ≢ n → word_bit vs i ≡ word_bit us i) → n < 64 * length vs → slot_fits k s ≡ true → n + 1 < 2 ^ 32 → IsBuilt k g vs (n + 1)
grown_built k f g ws us vs n b s e bits for_kind holds same here put others room fits short = record {
  for_kind = for_kind;
  store = record {
    holds = holds;
    words = record { room = omega (arith, room); clear = λ i h. others i (λ p. omega (arith, h, p)) ∙ bits i ∙ e.store.words.clear i (omega (arith, h)) };
  };
  column = record {
    fit = ap (slots_fit k) (grown f g ws us vs n b s bits same here put others) ∙ all_push (slot_fits k) (stored f ws n) s e.column.fit fits;
    short = omega (arith, short, length-map-range_with_len (lane_slot g vs) 0 (n + 1));
  };
}

-- what holds whatever was answered
pub on_err_any : {T E P : Type 0} (r : Result T E) → P → OnErr r P
on_err_any (Ok x) p = tt
on_err_any (Err e) p = p
