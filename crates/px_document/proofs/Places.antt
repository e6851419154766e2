-- What a token says as a place of a column, in each type that the place fits.
use Rattle.std.proofs.Common.{◌≡◌, ℕ, ℤ, Bool, true, List, Option, Some, None, option_map, option_and_then, refl}
use Rattle.serde_json.specs.Data as json
use Rattle.serde_json.specs.Data.{Data, Num, number, null}
use Rattle.serde_json.specs.Find.{as_integer}
use Rattle.px_column.specs.Prelude.{Slot, boolean, integer, text, Kind, booleans, int8s, int16s, int32s, int64s, uint8s, uint16s, uint32s, uint64s, strings, binaries, nulls, lists, slot_fits}
use Rattle.px_document.specs.Document.{fitting_place, place_of}

place_fits : (k : Kind) (d : Data) (s : Slot) → place_of k d ≡ Some s → slot_fits k s ≡ true → fitting_place k d ≡ Some s
place_fits k d s e fits = rw (e, fits) refl

-- a null, in every type
pub null_fits : (k : Kind) → slot_fits k None ≡ true → fitting_place k null ≡ Some None
null_fits booleans fits = refl
null_fits int8s fits = refl
null_fits int16s fits = refl
null_fits int32s fits = refl
null_fits int64s fits = refl
null_fits uint8s fits = refl
null_fits uint16s fits = refl
null_fits uint32s fits = refl
null_fits uint64s fits = refl
null_fits strings fits = refl
null_fits binaries fits = refl
null_fits nulls fits = refl
null_fits (lists k) fits = refl

-- a truth
pub boolean_fits : (k : Kind) (b : Bool) → slot_fits k (Some (boolean b)) ≡ true → fitting_place k (json.boolean b) ≡ Some (Some (boolean b))
boolean_fits booleans b fits = refl
boolean_fits int8s b fits = absurd (cc)
boolean_fits int16s b fits = absurd (cc)
boolean_fits int32s b fits = absurd (cc)
boolean_fits int64s b fits = absurd (cc)
boolean_fits uint8s b fits = absurd (cc)
boolean_fits uint16s b fits = absurd (cc)
boolean_fits uint32s b fits = absurd (cc)
boolean_fits uint64s b fits = absurd (cc)
boolean_fits strings b fits = absurd (cc)
boolean_fits binaries b fits = absurd (cc)
boolean_fits nulls b fits = absurd (cc)
boolean_fits (lists k) b fits = absurd (cc)

-- a text
pub text_fits : (k : Kind) (s : List ℕ) → slot_fits k (Some (text s)) ≡ true → fitting_place k (json.string s) ≡ Some (Some (text s))
text_fits booleans s fits = absurd (cc)
text_fits int8s s fits = absurd (cc)
text_fits int16s s fits = absurd (cc)
text_fits int32s s fits = absurd (cc)
text_fits int64s s fits = absurd (cc)
text_fits uint8s s fits = absurd (cc)
text_fits uint16s s fits = absurd (cc)
text_fits uint32s s fits = absurd (cc)
text_fits uint64s s fits = absurd (cc)
text_fits strings s fits = refl
text_fits binaries s fits = absurd (cc)
text_fits nulls s fits = absurd (cc)
text_fits (lists k) s fits = absurd (cc)

integer_place : (m : Num) (n : ℤ) → as_integer m ≡ Some n → option_map (λ x. Some x) (option_map integer (option_and_then as_integer (Some m))) ≡ Some (Some (integer n))
integer_place m n e = rw e refl

-- an integer
integer_fits : (k : Kind) (m : Num) (n : ℤ) → as_integer m ≡ Some n → slot_fits k (Some (integer n)) ≡ true → fitting_place k (number m) ≡ Some (Some (integer n))
integer_fits booleans m n e fits = absurd (cc)
integer_fits int8s m n e fits = place_fits int8s (number m) _ (integer_place m n e) fits
integer_fits int16s m n e fits = place_fits int16s (number m) _ (integer_place m n e) fits
integer_fits int32s m n e fits = place_fits int32s (number m) _ (integer_place m n e) fits
integer_fits int64s m n e fits = place_fits int64s (number m) _ (integer_place m n e) fits
integer_fits uint8s m n e fits = place_fits uint8s (number m) _ (integer_place m n e) fits
integer_fits uint16s m n e fits = place_fits uint16s (number m) _ (integer_place m n e) fits
integer_fits uint32s m n e fits = place_fits uint32s (number m) _ (integer_place m n e) fits
integer_fits uint64s m n e fits = place_fits uint64s (number m) _ (integer_place m n e) fits
integer_fits strings m n e fits = absurd (cc)
integer_fits binaries m n e fits = absurd (cc)
integer_fits nulls m n e fits = absurd (cc)
integer_fits (lists k) m n e fits = absurd (cc)

-- a number whose text writes an integer
pub number_fits : (k : Kind) (o : Option Num) (n : ℤ) → option_and_then as_integer o ≡ Some n → slot_fits k (Some (integer n)) ≡ true → option_and_then (fitting_place k) (option_map number o) ≡ Some (Some (integer n))
number_fits k None n e fits = absurd (cc)
number_fits k (Some m) n e fits = integer_fits k m n e fits
