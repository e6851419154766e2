-- What casts make of small values, of each pair of types.
use Rattle.std.specs.Prelude.{◌≡◌, [], ◌∷◌, Result, Ok, Err, codes}
use Rattle.px_operation.specs.Cast.{cast_slot, cast_slots}
use Rattle.px_value.specs.Kind.{booleans, int8s, int64s, uint8s, uint64s, strings, binaries, nulls, lists}
use Rattle.px_value.specs.Rows.{num, neg, yes, no, gone, list_slot, text_of, bytes_of}
use Rattle.px_value.specs.declared.cast_options.CastOptions.TheVariants.{Strict, NonStrict, Overflowing}
use Rattle.px_value.specs.declared.error.PxError.{PxError}
use Rattle.px_value.specs.declared.error.PxError.TheVariants.{InvalidOperation}
use Rattle.px_value.specs.declared.error.InvalidWhy.TheVariants.{CastLost}

-- the refusal of a cast that loses a value
abbrev pub refused : {A : Type 0} → Result A PxError
refused = Err (InvalidOperation CastLost)

-- casts between integers and truths: nulls, both ends of a type, both signs
pub record NumberCastRows : Type 0 where
  pub null : cast_slot int64s int8s Strict gone ≡ Ok gone
  pub null_of_no_type : cast_slot nulls strings Strict gone ≡ Ok gone
  pub same : cast_slot int64s int64s Strict (neg 5) ≡ Ok (neg 5)
  pub greatest : cast_slot int64s int8s Strict (num 127) ≡ Ok (num 127)
  pub past_refused : cast_slot int64s int8s Strict (num 128) ≡ refused
  pub past_null : cast_slot int64s int8s NonStrict (num 128) ≡ Ok gone
  pub past_wraps : cast_slot int64s int8s Overflowing (num 128) ≡ Ok (neg 128)
  pub negative_refused : cast_slot int64s uint64s Strict (neg 1) ≡ refused
  pub negative_null : cast_slot int64s uint8s NonStrict (neg 1) ≡ Ok gone
  pub negative_wraps : cast_slot int64s uint64s Overflowing (neg 1) ≡ Ok (num 18446744073709551615)
  pub yes_number : cast_slot booleans int8s Strict yes ≡ Ok (num 1)
  pub no_number : cast_slot booleans uint64s Strict no ≡ Ok (num 0)
  pub zero_truth : cast_slot int64s booleans Strict (num 0) ≡ Ok no
  pub other_truth : cast_slot int64s booleans Strict (neg 2) ≡ Ok yes
  pub truth_same : cast_slot booleans booleans Strict yes ≡ Ok yes

-- casts to texts and to bytes, and of texts to numbers: signs, leading zeros, what is no number
pub record TextCastRows : Type 0 where
  pub digits : cast_slot int64s strings Strict (num 120) ≡ Ok (text_of (codes "120"))
  pub zero_digits : cast_slot int64s strings Strict (num 0) ≡ Ok (text_of (codes "0"))
  pub minus : cast_slot int64s strings Strict (neg 9223372036854775808) ≡ Ok (text_of (codes "-9223372036854775808"))
  pub yes_text : cast_slot booleans strings Strict yes ≡ Ok (text_of (codes "true"))
  pub no_text : cast_slot booleans strings Strict no ≡ Ok (text_of (codes "false"))
  pub same : cast_slot strings strings Strict (text_of (codes "a")) ≡ Ok (text_of (codes "a"))
  pub number : cast_slot strings int64s Strict (text_of (codes "-12")) ≡ Ok (neg 12)
  pub leading_zeros : cast_slot strings uint8s Strict (text_of (codes "007")) ≡ Ok (num 7)
  pub minus_zero : cast_slot strings uint8s Strict (text_of (codes "-0")) ≡ Ok (num 0)
  pub past_refused : cast_slot strings uint8s Strict (text_of (codes "256")) ≡ refused
  pub past_null : cast_slot strings uint8s NonStrict (text_of (codes "256")) ≡ Ok gone
  pub past_wraps : cast_slot strings uint8s Overflowing (text_of (codes "256")) ≡ Ok (num 0)
  pub far_past_wraps : cast_slot strings int8s Overflowing (text_of (codes "-100000000000000000000000000000000000000000000000001")) ≡ Ok (neg 1)
  pub empty_refused : cast_slot strings int64s Strict (text_of []) ≡ refused
  pub empty_null : cast_slot strings int64s NonStrict (text_of []) ≡ Ok gone
  pub empty_wraps : cast_slot strings int64s Overflowing (text_of []) ≡ Ok gone
  pub minus_alone : cast_slot strings int64s NonStrict (text_of (codes "-")) ≡ Ok gone
  pub two_minus : cast_slot strings int64s NonStrict (text_of (codes "--1")) ≡ Ok gone
  pub plus : cast_slot strings int64s NonStrict (text_of (codes "+1")) ≡ Ok gone
  pub space : cast_slot strings int64s NonStrict (text_of (codes " 1")) ≡ Ok gone
  pub letter : cast_slot strings int64s Overflowing (text_of (codes "1a")) ≡ Ok gone
  pub text_bytes : cast_slot strings binaries Strict (text_of (codes "ab")) ≡ Ok (bytes_of (97 ∷ 98 ∷ []))
  pub bytes_same : cast_slot binaries binaries Strict (bytes_of (200 ∷ [])) ≡ Ok (bytes_of (200 ∷ []))

-- casts of lists element by element, and of whole columns
pub record ListCastRows : Type 0 where
  pub empty : cast_slot (lists int64s) (lists int8s) Strict (list_slot []) ≡ Ok (list_slot [])
  pub items : cast_slot (lists int64s) (lists strings) Strict (list_slot (num 1 ∷ gone ∷ neg 2 ∷ [])) ≡ Ok (list_slot (text_of (codes "1") ∷ gone ∷ text_of (codes "-2") ∷ []))
  pub item_null : cast_slot (lists int64s) (lists int8s) NonStrict (list_slot (num 300 ∷ num 3 ∷ [])) ≡ Ok (list_slot (gone ∷ num 3 ∷ []))
  pub item_refused : cast_slot (lists int64s) (lists int8s) Strict (list_slot (num 3 ∷ num 300 ∷ [])) ≡ refused
  pub nested : cast_slot (lists (lists booleans)) (lists (lists int8s)) Strict (list_slot (list_slot (yes ∷ []) ∷ gone ∷ [])) ≡ Ok (list_slot (list_slot (num 1 ∷ []) ∷ gone ∷ []))
  pub rows : cast_slots int64s int8s NonStrict (num 1 ∷ gone ∷ num 300 ∷ []) ≡ Ok (num 1 ∷ gone ∷ gone ∷ [])
  pub rows_refused : cast_slots int64s int8s Strict (num 1 ∷ gone ∷ num 300 ∷ []) ≡ refused
  pub no_rows : cast_slots int64s int8s Strict [] ≡ Ok []

-- all the small cases of casts
pub record CastRows : Type 0 where
  pub numbers : NumberCastRows
  pub texts : TextCastRows
  pub lists : ListCastRows
