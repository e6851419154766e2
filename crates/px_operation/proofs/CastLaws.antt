-- Casts of lists go element by element, and what a cast makes fits its type.
use Rattle.std.proofs.Common.{◌≡◌, ◌∙◌, ℕ, zero, suc, ◌+◌, ◌≤◌, ◌<◌, ◌&&◌, ℤ, Bool, true, false, not, List, [], ◌∷◌, ◌++◌, length, drop, Option, Some, None, Result, Ok, Err, refl, sym, ap, subst, append_assoc, add-one, arith, if◌then◌else◌}
use Rattle.std.specs.Fmt.{signed_decimal}
use Rattle.std.specs.Result.{result_map_both}
use Rattle.px_value.specs.Answer.{Refuses}
use Rattle.px_value.specs.Datum.{Datum, boolean, integer, text, bytes, list, Slots, no_slots, absent, present, Slot, slots, items, items-slots, slot_weight, list_weight}
use Rattle.px_value.specs.Kind.{Kind, booleans, int8s, int16s, int32s, int64s, uint8s, uint16s, uint32s, uint64s, strings, binaries, lists, fits, all_fit, slot_fits, slots_fit}
use Rattle.px_value.specs.Series.{slot_at}
use Rattle.px_value.specs.declared.cast_options.CastOptions.{CastOptions}
use Rattle.px_value.specs.declared.cast_options.CastOptions.TheVariants.{Strict, NonStrict, Overflowing}
use Rattle.px_value.specs.declared.error.PxError.{PxError}
use Rattle.px_value.proofs.Refusing.{refuses_too}
use Rattle.px_operation.specs.Cast.{before, lost, list_slot, number_cast, number_written, truth_number, truth_text, written_cast, boolean_cast, bytes_cast, integer_cast, text_cast, datum_cast, items_cast, cast_slot, cast_slots}
use Rattle.px_operation.specs.Operator.{is_integer_kind, is_zero}
use Rattle.px_operation.specs.Wrap.{is_in_range, wrapped_in}
use Rattle.px_operation.proofs.WrapLaws.{fits_wrapped}

-- slots that are done and those after them, or the refusal of one of those
abbrev pub after : List Slot → Result Slots PxError → Result Slots PxError
after done (Ok ds) = Ok (slots (done ++ items ds))
after done (Err e) = Err e

slots-items : (ds : Slots) → slots (items ds) ≡ ds
slots-items no_slots = refl
slots-items (absent ds) = ap absent (slots-items ds)
slots-items (present d ds) = ap (present d) (slots-items ds)

-- with nothing done yet
pub after_none : (r : Result Slots PxError) → r ≡ after [] r
after_none (Ok ds) = ap Ok (sym (slots-items ds))
after_none (Err e) = refl

-- one more that is done
pub after_one : (done : List Slot) (s : Slot) (r : Result Slots PxError) → after done (before (Ok s) r) ≡ after (done ++ s ∷ []) r
after_one done s (Err e) = refl
after_one done None (Ok ds) = ap (λ (xs : List Slot). Ok (slots xs)) (sym (append_assoc done (None ∷ []) (items ds)))
after_one done (Some d) (Ok ds) = ap (λ (xs : List Slot). Ok (slots xs)) (sym (append_assoc done (Some d ∷ []) (items ds)))

-- a list's elements are the first one's and those after it
pub items_first : (from to : Kind) (o : CastOptions) (s : Slot) (xs : List Slot) → items_cast to o (slots (s ∷ xs)) ≡ before (cast_slot from to o s) (items_cast to o (slots xs))
items_first from to o None xs = refl
items_first from to o (Some d) xs = refl

-- what is read of a list from a row on
pub drop_row : (xs : List Slot) (i : ℕ) → i < length xs → drop i xs ≡ slot_at xs i ∷ drop (i + 1) xs
drop_row [] i h = absurd (omega arith)
drop_row (x ∷ xs) zero h = refl
drop_row (x ∷ xs) (suc i) h = rw add-one (drop_row xs i (omega arith) ∙ rw add-one refl)

-- the elements from a row on, where the first of them is cast
pub cast_row : (to : Kind) (o : CastOptions) (done : List Slot) (xs : List Slot) (i : ℕ) (s : Slot) → i < length xs → s ≡ slot_at xs i
    → after done (items_cast to o (slots (drop i xs))) ≡ after done (before (cast_slot to to o s) (items_cast to o (slots (drop (i + 1) xs))))
cast_row to o done xs i s h e =
    ap (λ (ys : List Slot). after done (items_cast to o (slots ys))) (drop_row xs i h)
    ∙ ap (after done) (items_first to to o (slot_at xs i) (drop (i + 1) xs))
    ∙ ap (λ (q : Slot). after done (before (cast_slot to to o q) (items_cast to o (slots (drop (i + 1) xs))))) (sym e)

-- the refusal of an element is that of its list
pub refused_row : (e : PxError) (done : List Slot) (s : Result Slot PxError) (r : Result Slots PxError) → Refuses e s → Refuses e (after done (before s r))
refused_row e done s r = refuses_too e s (after done (before s r)) (ap (λ (q : Result Slot PxError). after done (before q r)))

-- an element weighs no more than its list
pub weight_at : (xs : List Slot) (i : ℕ) → slot_weight (slot_at xs i) ≤ list_weight xs
weight_at [] i = omega arith
weight_at (None ∷ xs) zero = omega arith
weight_at (None ∷ xs) (suc i) = weight_at xs i
weight_at (Some d ∷ xs) zero = omega arith
weight_at (Some d ∷ xs) (suc i) = omega (arith, weight_at xs i)

-- what a cast makes fits its type
abbrev made : Slot → Result Slot PxError
made s = Ok s

along : (k : Kind) (s r : Slot) → made s ≡ Ok r → slot_fits k s ≡ true → slot_fits k r ≡ true
along k s r e h = let same : s ≡ r = cc in subst (λ (q : Slot). slot_fits k q ≡ true) same h

fits_lost : (k : Kind) (o : CastOptions) (left r : Slot) → slot_fits k left ≡ true → lost o left ≡ Ok r → slot_fits k r ≡ true
fits_lost k Strict left r f h = cc
fits_lost k NonStrict left r f h = along k None r h refl
fits_lost k Overflowing left r f h = along k left r h f

fits_number_cast : (k : Kind) (o : CastOptions) (z : ℤ) (r : Slot) → is_integer_kind k ≡ true → number_cast k o z ≡ Ok r → slot_fits k r ≡ true
fits_number_cast k o z r i h = by (is_in_range k z) refl h
  where
    by : (b : Bool) → is_in_range k z ≡ b → (if b then Ok (Some (integer z)) else lost o (Some (integer (wrapped_in k z)))) ≡ Ok r → slot_fits k r ≡ true
    by true e h = along k (Some (integer z)) r h e
    by false e h = fits_lost k o (Some (integer (wrapped_in k z))) r (fits_wrapped k z i) h

fits_written_cast : (k : Kind) (o : CastOptions) (w : Option ℤ) (r : Slot) → is_integer_kind k ≡ true → written_cast k o w ≡ Ok r → slot_fits k r ≡ true
fits_written_cast k o None r i h = fits_lost k o None r refl h
fits_written_cast k o (Some z) r i h = fits_number_cast k o z r i h

fits_truth : (k : Kind) (b : Bool) → is_integer_kind k ≡ true → fits k (integer (truth_number b)) ≡ true
fits_truth int8s true i = refl
fits_truth int8s false i = refl
fits_truth int16s true i = refl
fits_truth int16s false i = refl
fits_truth int32s true i = refl
fits_truth int32s false i = refl
fits_truth int64s true i = refl
fits_truth int64s false i = refl
fits_truth uint8s true i = refl
fits_truth uint8s false i = refl
fits_truth uint16s true i = refl
fits_truth uint16s false i = refl
fits_truth uint32s true i = refl
fits_truth uint32s false i = refl
fits_truth uint64s true i = refl
fits_truth uint64s false i = refl
fits_truth _ b i = cc

fits_boolean_cast : (k : Kind) (b : Bool) (r : Slot) → boolean_cast k b ≡ Ok r → slot_fits k r ≡ true
fits_boolean_cast booleans b r h = along booleans (Some (boolean b)) r h refl
fits_boolean_cast strings b r h = along strings (Some (text (truth_text b))) r h refl
fits_boolean_cast int8s b r h = along int8s (Some (integer (truth_number b))) r h (fits_truth int8s b refl)
fits_boolean_cast int16s b r h = along int16s (Some (integer (truth_number b))) r h (fits_truth int16s b refl)
fits_boolean_cast int32s b r h = along int32s (Some (integer (truth_number b))) r h (fits_truth int32s b refl)
fits_boolean_cast int64s b r h = along int64s (Some (integer (truth_number b))) r h (fits_truth int64s b refl)
fits_boolean_cast uint8s b r h = along uint8s (Some (integer (truth_number b))) r h (fits_truth uint8s b refl)
fits_boolean_cast uint16s b r h = along uint16s (Some (integer (truth_number b))) r h (fits_truth uint16s b refl)
fits_boolean_cast uint32s b r h = along uint32s (Some (integer (truth_number b))) r h (fits_truth uint32s b refl)
fits_boolean_cast uint64s b r h = along uint64s (Some (integer (truth_number b))) r h (fits_truth uint64s b refl)
fits_boolean_cast _ b r h = cc

fits_integer_cast : (k : Kind) (o : CastOptions) (z : ℤ) (r : Slot) → integer_cast k o z ≡ Ok r → slot_fits k r ≡ true
fits_integer_cast booleans o z r h = along booleans (Some (boolean (not (is_zero z)))) r h refl
fits_integer_cast strings o z r h = along strings (Some (text (signed_decimal z))) r h refl
fits_integer_cast int8s o z r h = fits_number_cast int8s o z r refl h
fits_integer_cast int16s o z r h = fits_number_cast int16s o z r refl h
fits_integer_cast int32s o z r h = fits_number_cast int32s o z r refl h
fits_integer_cast int64s o z r h = fits_number_cast int64s o z r refl h
fits_integer_cast uint8s o z r h = fits_number_cast uint8s o z r refl h
fits_integer_cast uint16s o z r h = fits_number_cast uint16s o z r refl h
fits_integer_cast uint32s o z r h = fits_number_cast uint32s o z r refl h
fits_integer_cast uint64s o z r h = fits_number_cast uint64s o z r refl h
fits_integer_cast _ o z r h = cc

fits_text_cast : (k : Kind) (o : CastOptions) (t : List ℕ) (r : Slot) → text_cast k o t ≡ Ok r → slot_fits k r ≡ true
fits_text_cast strings o t r h = along strings (Some (text t)) r h refl
fits_text_cast binaries o t r h = along binaries (Some (bytes t)) r h refl
fits_text_cast int8s o t r h = fits_written_cast int8s o (number_written t) r refl h
fits_text_cast int16s o t r h = fits_written_cast int16s o (number_written t) r refl h
fits_text_cast int32s o t r h = fits_written_cast int32s o (number_written t) r refl h
fits_text_cast int64s o t r h = fits_written_cast int64s o (number_written t) r refl h
fits_text_cast uint8s o t r h = fits_written_cast uint8s o (number_written t) r refl h
fits_text_cast uint16s o t r h = fits_written_cast uint16s o (number_written t) r refl h
fits_text_cast uint32s o t r h = fits_written_cast uint32s o (number_written t) r refl h
fits_text_cast uint64s o t r h = fits_written_cast uint64s o (number_written t) r refl h
fits_text_cast _ o t r h = cc

fits_bytes_cast : (k : Kind) (t : List ℕ) (r : Slot) → bytes_cast k t ≡ Ok r → slot_fits k r ≡ true
fits_bytes_cast binaries t r h = along binaries (Some (bytes t)) r h refl
fits_bytes_cast _ t r h = cc

fits_list_slot : (k : Kind) (q : Result Slots PxError) (r : Slot) → ((es : Slots) → q ≡ Ok es → all_fit k es ≡ true) → list_slot q ≡ Ok r → slot_fits (lists k) r ≡ true
fits_list_slot k (Ok es) r f h = along (lists k) (Some (list es)) r h (f es refl)
fits_list_slot k (Err e) r f h = cc

fits_before : (k : Kind) (p : Result Slot PxError) (q : Result Slots PxError) (es : Slots) → ((s : Slot) → p ≡ Ok s → slot_fits k s ≡ true) → ((fs : Slots) → q ≡ Ok fs → all_fit k fs ≡ true)
    → before p q ≡ Ok es → all_fit k es ≡ true
fits_before k (Err e) q es f g h = cc
fits_before k (Ok s) (Err e) es f g h = cc
fits_before k (Ok None) (Ok fs) es f g h = let same : absent fs ≡ es = cc in ap (all_fit k) (sym same) ∙ g fs refl
fits_before k (Ok (Some c)) (Ok fs) es f g h = let same : present c fs ≡ es = cc in ap (all_fit k) (sym same) ∙ (λ i. f (Some c) refl i && g fs refl i)

mutual
  fits_datum_cast : (k : Kind) (o : CastOptions) (d : Datum) (r : Slot) → datum_cast k o d ≡ Ok r → slot_fits k r ≡ true
  fits_datum_cast k o (boolean b) r h = fits_boolean_cast k b r h
  fits_datum_cast k o (integer z) r h = fits_integer_cast k o z r h
  fits_datum_cast k o (text t) r h = fits_text_cast k o t r h
  fits_datum_cast k o (bytes t) r h = fits_bytes_cast k t r h
  fits_datum_cast (lists k) o (list ds) r h = fits_list_slot k (items_cast k o ds) r (λ es e. fits_items_cast k o ds es e) h
  fits_datum_cast _ o (list ds) r h = cc

  fits_items_cast : (k : Kind) (o : CastOptions) (ds es : Slots) → items_cast k o ds ≡ Ok es → all_fit k es ≡ true
  fits_items_cast k o no_slots es h = let same : no_slots ≡ es = cc in ap (all_fit k) (sym same)
  fits_items_cast k o (absent ds) es h = fits_before k (Ok None) (items_cast k o ds) es (λ s e. along k None s e refl) (λ fs e. fits_items_cast k o ds fs e) h
  fits_items_cast k o (present d ds) es h = fits_before k (datum_cast k o d) (items_cast k o ds) es (λ s e. fits_datum_cast k o d s e) (λ fs e. fits_items_cast k o ds fs e) h

pub fits_cast : (from k : Kind) (o : CastOptions) (s r : Slot) → cast_slot from k o s ≡ Ok r → slot_fits k r ≡ true
fits_cast from k o None r h = along k None r h refl
fits_cast from k o (Some d) r h = fits_datum_cast k o d r h

items_fit : (k : Kind) (ds : Slots) → slots_fit k (items ds) ≡ all_fit k ds
items_fit k no_slots = refl
items_fit k (absent ds) = items_fit k ds
items_fit k (present d ds) = ap (λ b. fits k d && b) (items_fit k ds)

-- and so do the rows that it makes
pub fits_cast_slots : (from k : Kind) (o : CastOptions) (xs ys : List Slot) → cast_slots from k o xs ≡ Ok ys → slots_fit k ys ≡ true
fits_cast_slots from k o xs ys h = by (items_cast k o (slots xs)) refl h
  where
    by : (q : Result Slots PxError) → items_cast k o (slots xs) ≡ q → result_map_both items (λ e. e) q ≡ Ok ys → slots_fit k ys ≡ true
    by (Ok ds) e h = let same : items ds ≡ ys = cc in ap (slots_fit k) (sym same) ∙ items_fit k ds ∙ fits_items_cast k o (slots xs) ds e
    by (Err f) e h = cc

length_before : (p : Result Slot PxError) (q : Result Slots PxError) (es : Slots) (n : ℕ) → ((fs : Slots) → q ≡ Ok fs → length (items fs) ≡ n) → before p q ≡ Ok es → length (items es) ≡ suc n
length_before (Err e) q es n g h = cc
length_before (Ok s) (Err e) es n g h = cc
length_before (Ok None) (Ok fs) es n g h = let same : absent fs ≡ es = cc in ap (λ (ds : Slots). length (items ds)) (sym same) ∙ ap suc (g fs refl)
length_before (Ok (Some c)) (Ok fs) es n g h = let same : present c fs ≡ es = cc in ap (λ (ds : Slots). length (items ds)) (sym same) ∙ ap suc (g fs refl)

length_items_cast : (k : Kind) (o : CastOptions) (ds es : Slots) → items_cast k o ds ≡ Ok es → length (items es) ≡ length (items ds)
length_items_cast k o no_slots es h = let same : no_slots ≡ es = cc in ap (λ (q : Slots). length (items q)) (sym same)
length_items_cast k o (absent ds) es h = length_before (Ok None) (items_cast k o ds) es (length (items ds)) (λ fs e. length_items_cast k o ds fs e) h
length_items_cast k o (present d ds) es h = length_before (datum_cast k o d) (items_cast k o ds) es (length (items ds)) (λ fs e. length_items_cast k o ds fs e) h

-- of which there are as many as before
pub length_cast_slots : (from k : Kind) (o : CastOptions) (xs ys : List Slot) → cast_slots from k o xs ≡ Ok ys → length ys ≡ length xs
length_cast_slots from k o xs ys h = by (items_cast k o (slots xs)) refl h
  where
    by : (q : Result Slots PxError) → items_cast k o (slots xs) ≡ q → result_map_both items (λ e. e) q ≡ Ok ys → length ys ≡ length xs
    by (Ok ds) e h = let same : items ds ≡ ys = cc in ap length (sym same) ∙ length_items_cast k o (slots xs) ds e ∙ ap length (items-slots xs)
    by (Err f) e h = cc
