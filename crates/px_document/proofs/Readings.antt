-- What the readers of types, bytes and places have read, step by step.
use Rattle.std.proofs.Common.{map, ◌≡◌, ◌≢◌, ◌≤◌, ◌-◌, ◌∙◌, ℕ, zero, suc, List, [], ◌∷◌, ◌++◌, length, drop, get_or, refl, ap, append_assoc, append-nil, arith, true, false, ◌+◌, ◌<◌, Option, Some, None, option_map}
use Rattle.std.proofs.lemmas.List.{drop_all}
use Rattle.std.specs.Option.{option_or, option_and_then, is_some}
use Rattle.std.specs.Prelude.{Result, Ok, Err}
use Rattle.std.specs.Result.{IsErr}
use Rattle.serde_json.specs.Data.{Data}
use Rattle.serde_json.specs.Find.{as_null}
use Rattle.px_column.specs.Prelude.{Datum, Kind, booleans, int8s, int16s, int32s, int64s, uint8s, uint16s, uint32s, uint64s, strings, binaries, nulls, lists}
use Rattle.px_document.specs.Document.{bytes_of_hex, hex_byte, in_list, kind_within, short_list, place_of, simple_kind, unless_null}
use Rattle.px_column.specs.Option.{◌>>=◌, each}
use Rattle.px_document.specs.Form.{Misses, ReadsBy, items, with_front}
use Rattle.px_document.specs.declared.document.fault.DocumentFault.{DocumentFault}
use Rattle.px_document.specs.declared.document.fault.DocumentFault.TheVariants.{BadDocument, OutOfMemory}

pub kind_within_more : (n : ℕ) (s : List ℕ) → n ≢ 0 → kind_within n s ≡ option_or (simple_kind s) (in_list s >>= λ t. option_map lists (kind_within (n - 1) t))
kind_within_more zero s h = absurd (h refl)
kind_within_more (suc n) s h = let e : suc n - 1 ≡ n = omega arith in rw e refl

with_front_more : {A : Type 0} (front : List A) (x : A) (rest : Option (List A)) → with_front (front ++ x ∷ []) rest ≡ with_front front (option_map (λ xs. x ∷ xs) rest)
with_front_more front x None = refl
with_front_more front x (Some ys) = ap Some (append_assoc front (x ∷ []) ys)

-- where nothing was made so far
pub with_front_none : {A : Type 0} (rest : Option (List A)) → with_front [] rest ≡ rest
with_front_none None = refl
with_front_none (Some ys) = refl

-- what was refused, where there is nothing to read
pub refused : {X Y : Type 0} (r : Result X DocumentFault) (view : X → Y) (o : Option Y) → IsErr r → o ≡ None → ReadsBy view r o
refused (Ok x) view o e h = absurd (cc)
refused (Err BadDocument) view o e h = h
refused (Err OutOfMemory) view o e h = tt

-- what is made of the item at i, before what is made of the items after it
pub each_step : {V A B : Type 0} (seen : V → A) (f : A → Option B) (vs : List V) (i : ℕ) (v : V) (front : List B) (y : B) → i < length vs → v ≡ get_or vs i v → f (seen v) ≡ Some y → with_front (front ++ y ∷ []) (each f (map seen (drop (i + 1) vs))) ≡ with_front front (each f (map seen (drop i vs)))
each_step seen f [] i v front y l e h = absurd (omega (arith, l))
each_step seen f (w ∷ vs) zero v front y l e h =
    let made : f (seen w) ≡ Some y = rw e at h in
    rw made (with_front_more front y (each f (map seen vs)))
each_step seen f (w ∷ vs) (suc i) v front y l e h =
    let next : suc i + 1 ≡ suc (i + 1) = omega arith in
    rw next (each_step seen f vs i v front y (omega (arith, l)) e h)

-- where nothing is made of the item at i, nothing is made of all
pub each_missed : {V A B : Type 0} (seen : V → A) (f : A → Option B) (vs : List V) (i : ℕ) (v : V) (front : List B) → i < length vs → v ≡ get_or vs i v → f (seen v) ≡ None → with_front front (each f (map seen (drop i vs))) ≡ None
each_missed seen f [] i v front l e h = absurd (omega (arith, l))
each_missed seen f (w ∷ vs) zero v front l e h = let missed : f (seen w) ≡ None = rw e at h in rw missed refl
each_missed seen f (w ∷ vs) (suc i) v front l e h = each_missed seen f vs i v front (omega (arith, l)) e h

-- where no item is left
pub each_end : {V A B : Type 0} (seen : V → A) (f : A → Option B) (vs : List V) (i : ℕ) (front : List B) → length vs ≤ i → with_front front (each f (map seen (drop i vs))) ≡ Some front
each_end seen f vs i front l = ap (λ r. with_front front (each f (map seen r))) (drop_all i vs l) ∙ ap Some (append-nil front)

-- the byte of two digits at i, before what is made of the digits after them
pub hex_step : (front s : List ℕ) (i : ℕ) (x : ℕ) → 2 ≤ length s - i → hex_byte (get_or s i 0) (get_or s (i + 1) 0) ≡ Some x → with_front (front ++ x ∷ []) (bytes_of_hex (drop (i + 2) s)) ≡ with_front front (bytes_of_hex (drop i s))
hex_step front [] i x l h = absurd (omega (arith, l))
hex_step front (a ∷ []) zero x l h = absurd (omega (arith, l))
hex_step front (a ∷ b ∷ s) zero x l h = rw h (with_front_more front x (bytes_of_hex s))
hex_step front (a ∷ s) (suc i) x l h =
    let next : suc i + 1 ≡ suc (i + 1) = omega arith in
    let after : suc i + 2 ≡ suc (i + 2) = omega arith in
    rw after (hex_step front s i x (omega (arith, l)) (rw next at h))

-- a digit that is left alone
pub hex_left : (s : List ℕ) (i : ℕ) → i < length s → length s - i < 2 → bytes_of_hex (drop i s) ≡ None
hex_left [] i l m = absurd (omega (arith, l))
hex_left (a ∷ []) zero l m = refl
hex_left (a ∷ b ∷ s) zero l m = absurd (omega (arith, m))
hex_left (a ∷ s) (suc i) l m = hex_left s i (omega (arith, l)) (omega (arith, m))

-- two digits at i that write no byte
pub hex_missed : (s : List ℕ) (i : ℕ) → 2 ≤ length s - i → hex_byte (get_or s i 0) (get_or s (i + 1) 0) ≡ None → bytes_of_hex (drop i s) ≡ None
hex_missed [] i l h = absurd (omega (arith, l))
hex_missed (a ∷ []) zero l h = absurd (omega (arith, l))
hex_missed (a ∷ b ∷ s) zero l h = rw h refl
hex_missed (a ∷ s) (suc i) l h =
    let next : suc i + 1 ≡ suc (i + 1) = omega arith in
    hex_missed s i (omega (arith, l)) (rw next at h)

-- where no digit is left
pub hex_end : (front s : List ℕ) (i : ℕ) → length s ≤ i → with_front front (bytes_of_hex (drop i s)) ≡ Some front
hex_end front s i l = ap (λ r. with_front front (bytes_of_hex r)) (drop_all i s l) ∙ ap Some (append-nil front)

null_place : (d : Data) (o : Option Datum) → is_some (as_null d) ≡ true → unless_null d o ≡ Some None
null_place d o h = rw h refl

pub place_of_null : (k : Kind) (d : Data) → is_some (as_null d) ≡ true → place_of k d ≡ Some None
place_of_null booleans d h = null_place d _ h
place_of_null int8s d h = null_place d _ h
place_of_null int16s d h = null_place d _ h
place_of_null int32s d h = null_place d _ h
place_of_null int64s d h = null_place d _ h
place_of_null uint8s d h = null_place d _ h
place_of_null uint16s d h = null_place d _ h
place_of_null uint32s d h = null_place d _ h
place_of_null uint64s d h = null_place d _ h
place_of_null strings d h = null_place d _ h
place_of_null binaries d h = null_place d _ h
place_of_null nulls d h = null_place d None h
place_of_null (lists k) d h = null_place d _ h

-- a list that was read is the place
pub list_taken : (k : Kind) (d : Data) (x : Datum) → is_some (as_null d) ≡ false → option_and_then short_list (option_and_then (each (place_of k)) (items d)) ≡ Some x → place_of (lists k) d ≡ Some (Some x)
list_taken k d x h m = rw (h, m) refl

-- where there is no list, there is no place
pub list_missed : (k : Kind) (d : Data) (e : DocumentFault) → is_some (as_null d) ≡ false → Misses e (option_and_then short_list (option_and_then (each (place_of k)) (items d))) → Misses e (place_of (lists k) d)
list_missed k d BadDocument h m = rw (h, m) refl
list_missed k d OutOfMemory h m = tt
