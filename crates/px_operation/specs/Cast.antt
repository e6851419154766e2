-- Casts: which types a type is cast to, and what becomes of each slot.
use Rattle.std.specs.Prelude.{ℕ, ◌==◌, ℤ, pos, neg_ℤ, Bool, true, false, not, List, [], ◌∷◌, Option, Some, None, Result, Ok, Err, ◌||◌, codes, if◌then◌else◌}
use Rattle.std.specs.Option.{option_map}
use Rattle.std.specs.Result.{result_map_both}
use Rattle.std.specs.Fmt.{signed_decimal}
use Rattle.std.specs.Str.{all_ascii_digits}
use Rattle.std.specs.Str.Parse.{digits_value}
use Rattle.px_value.specs.Datum.{Datum, boolean, integer, text, bytes, list, Slots, no_slots, absent, present, Slot, slots, items}
use Rattle.px_value.specs.Kind.{Kind, booleans, strings, binaries, nulls, lists}
use Rattle.px_operation.specs.Operator.{is_integer_kind, is_boolean_kind, is_string_kind, kind_where, is_zero}
use Rattle.px_operation.specs.Wrap.{wrapped_in, is_in_range}
use Rattle.px_value.specs.declared.cast_options.CastOptions.{CastOptions}
use Rattle.px_value.specs.declared.cast_options.CastOptions.TheVariants.{Strict, NonStrict, Overflowing}
use Rattle.px_value.specs.declared.error.PxError.{PxError}
use Rattle.px_value.specs.declared.error.PxError.TheVariants.{InvalidOperation}
use Rattle.px_value.specs.declared.error.InvalidWhy.TheVariants.{CastLost, Types}

-- the type of bytes
abbrev pub is_binary_kind : Kind → Bool
is_binary_kind binaries = true
is_binary_kind _ = false

-- whether values of another type are cast to this one: integers, booleans and texts to each other, but texts to no
-- booleans; texts to bytes; nulls to all; lists where their elements are
abbrev pub is_cast : Kind → Kind → Bool
is_cast nulls to = true
is_cast booleans to = is_boolean_kind to || (is_integer_kind to || is_string_kind to)
is_cast strings to = is_string_kind to || (is_integer_kind to || is_binary_kind to)
is_cast binaries to = is_binary_kind to
is_cast (lists a) (lists b) = is_cast a b
is_cast (lists a) _ = false
is_cast _ to = is_integer_kind to || (is_boolean_kind to || is_string_kind to)

-- the type of a cast
abbrev pub cast_kind : Kind → Kind → Result Kind PxError
cast_kind from to = kind_where (is_cast from to) to

-- what becomes of a value that the new type does not have, of which this is left when it wraps
abbrev pub lost : CastOptions → Slot → Result Slot PxError
lost Strict left = Err (InvalidOperation CastLost)
lost NonStrict left = Ok None
lost Overflowing left = Ok left

-- a number as a value of an integer type
abbrev pub number_cast : Kind → CastOptions → ℤ → Result Slot PxError
number_cast to o z = if is_in_range to z then Ok (Some (integer z)) else lost o (Some (integer (wrapped_in to z)))

-- the number that one decimal digit or more write
abbrev pub natural_of : List ℕ → Option ℕ
natural_of [] = None
natural_of (c ∷ cs) = if all_ascii_digits (c ∷ cs) then Some (digits_value 10 (c ∷ cs)) else None

-- the number that such digits write, where a minus may stand first
abbrev pub number_written : List ℕ → Option ℤ
number_written [] = None
number_written (c ∷ cs) = if c == 45 then option_map (λ n. neg_ℤ (pos n)) (natural_of cs) else option_map pos (natural_of (c ∷ cs))

-- the number that a text writes, of which nothing is left where it writes none
abbrev pub written_cast : Kind → CastOptions → Option ℤ → Result Slot PxError
written_cast to o None = lost o None
written_cast to o (Some z) = number_cast to o z

-- a truth as a text
abbrev pub truth_text : Bool → List ℕ
truth_text true = codes "true"
truth_text false = codes "false"

-- a truth as a number: one for true, zero for false
abbrev pub truth_number : Bool → ℤ
truth_number true = pos 1
truth_number false = pos 0

-- what becomes of a truth in each type that it is cast to
abbrev pub boolean_cast : Kind → Bool → Result Slot PxError
boolean_cast booleans b = Ok (Some (boolean b))
boolean_cast strings b = Ok (Some (text (truth_text b)))
boolean_cast to b = if is_integer_kind to then Ok (Some (integer (truth_number b))) else Err (InvalidOperation Types)

-- what becomes of a number in each type that it is cast to
abbrev pub integer_cast : Kind → CastOptions → ℤ → Result Slot PxError
integer_cast booleans o z = Ok (Some (boolean (not (is_zero z))))
integer_cast strings o z = Ok (Some (text (signed_decimal z)))
integer_cast to o z = if is_integer_kind to then number_cast to o z else Err (InvalidOperation Types)

-- what becomes of a text in each type that it is cast to
abbrev pub text_cast : Kind → CastOptions → List ℕ → Result Slot PxError
text_cast strings o s = Ok (Some (text s))
text_cast binaries o s = Ok (Some (bytes s))
text_cast to o s = if is_integer_kind to then written_cast to o (number_written s) else Err (InvalidOperation Types)

-- what becomes of bytes, which are cast to bytes alone
abbrev pub bytes_cast : Kind → List ℕ → Result Slot PxError
bytes_cast binaries s = Ok (Some (bytes s))
bytes_cast _ s = Err (InvalidOperation Types)

-- a slot and those after it, or the first refusal
abbrev pub before : Result Slot PxError → Result Slots PxError → Result Slots PxError
before (Err e) _ = Err e
before (Ok s) (Err e) = Err e
before (Ok None) (Ok ds) = Ok (absent ds)
before (Ok (Some d)) (Ok ds) = Ok (present d ds)

-- the elements as one list, or their refusal
abbrev pub list_slot : Result Slots PxError → Result Slot PxError
list_slot (Ok ds) = Ok (Some (list ds))
list_slot (Err e) = Err e

abbrev mutual
  -- a value in another type; a value tells by itself of which type it is
  pub datum_cast : Kind → CastOptions → Datum → Result Slot PxError
  datum_cast to o (boolean b) = boolean_cast to b
  datum_cast to o (integer z) = integer_cast to o z
  datum_cast to o (text s) = text_cast to o s
  datum_cast to o (bytes s) = bytes_cast to s
  datum_cast (lists to) o (list ds) = list_slot (items_cast to o ds)
  datum_cast _ o (list ds) = Err (InvalidOperation Types)

  -- the elements of a list in another type, one by one, or the first refusal
  pub items_cast : Kind → CastOptions → Slots → Result Slots PxError
  items_cast to o no_slots = Ok no_slots
  items_cast to o (absent ds) = before (Ok None) (items_cast to o ds)
  items_cast to o (present d ds) = before (datum_cast to o d) (items_cast to o ds)

-- a slot in another type; a null stays a null
abbrev pub cast_slot : Kind → Kind → CastOptions → Slot → Result Slot PxError
cast_slot from to o None = Ok None
cast_slot from to o (Some d) = datum_cast to o d

-- the slots of a column in another type, or the first refusal
abbrev pub cast_slots : Kind → Kind → CastOptions → List Slot → Result (List Slot) PxError
cast_slots from to o xs = result_map_both items (λ e. e) (items_cast to o (slots xs))
