-- The types of columns, and which values fit them.
use Rattle.std.specs.Prelude.{ℕ, ◌≡◌, refl, zero, suc, ◌==◌, ℤ, pos, negsuc, Bool, true, false, ◌&&◌, nat_lt, List, Some, None}
use Rattle.std.proofs.Common.{ap}
use Rattle.std.specs.Coded.{Coded, code_by, coded_ℕ}
use Rattle.std.specs.List.{list_all}
use Rattle.px_value.specs.Datum.{Datum, boolean, integer, text, bytes, list, Slots, no_slots, absent, present, Slot}

-- a type of columns: truths, integers of eight kinds, texts, bytes, nulls alone, or lists of a type
pub data Kind : Type 0 where
  booleans : Kind
  int8s : Kind
  int16s : Kind
  int32s : Kind
  int64s : Kind
  uint8s : Kind
  uint16s : Kind
  uint32s : Kind
  uint64s : Kind
  strings : Kind
  binaries : Kind
  nulls : Kind
  lists : Kind → Kind

-- each type has a number of its own
abbrev pub kind_number : Kind → ℕ
kind_number booleans = 0
kind_number int8s = 1
kind_number int16s = 2
kind_number int32s = 3
kind_number int64s = 4
kind_number uint8s = 5
kind_number uint16s = 6
kind_number uint32s = 7
kind_number uint64s = 8
kind_number strings = 9
kind_number binaries = 10
kind_number nulls = 11
kind_number (lists k) = suc (suc (suc (suc (suc (suc (suc (suc (suc (suc (suc (suc (kind_number k))))))))))))

-- the type that a number stands for
abbrev pub kind_back : ℕ → Kind
kind_back zero = booleans
kind_back (suc zero) = int8s
kind_back (suc (suc zero)) = int16s
kind_back (suc (suc (suc zero))) = int32s
kind_back (suc (suc (suc (suc zero)))) = int64s
kind_back (suc (suc (suc (suc (suc zero))))) = uint8s
kind_back (suc (suc (suc (suc (suc (suc zero)))))) = uint16s
kind_back (suc (suc (suc (suc (suc (suc (suc zero))))))) = uint32s
kind_back (suc (suc (suc (suc (suc (suc (suc (suc zero)))))))) = uint64s
kind_back (suc (suc (suc (suc (suc (suc (suc (suc (suc zero))))))))) = strings
kind_back (suc (suc (suc (suc (suc (suc (suc (suc (suc (suc zero)))))))))) = binaries
kind_back (suc (suc (suc (suc (suc (suc (suc (suc (suc (suc (suc zero))))))))))) = nulls
kind_back (suc (suc (suc (suc (suc (suc (suc (suc (suc (suc (suc (suc n)))))))))))) = lists (kind_back n)

-- the type of a type's number is that type
pub kind_round : (k : Kind) → kind_back (kind_number k) ≡ k
kind_round booleans = refl
kind_round int8s = refl
kind_round int16s = refl
kind_round int32s = refl
kind_round int64s = refl
kind_round uint8s = refl
kind_round uint16s = refl
kind_round uint32s = refl
kind_round uint64s = refl
kind_round strings = refl
kind_round binaries = refl
kind_round nulls = refl
kind_round (lists k) = ap lists (kind_round k)

-- types are told apart by their numbers
abbrev pub coded_kind : Coded Kind
coded_kind = code_by ℕ coded_ℕ kind_number kind_back kind_round

-- the same type
abbrev pub kind_eq : Kind → Kind → Bool
kind_eq a b = kind_number a == kind_number b

-- a type of lists
abbrev pub is_list_kind : Kind → Bool
is_list_kind (lists k) = true
is_list_kind _ = false

-- from -n to n - 1
abbrev pub is_signed : ℕ → ℤ → Bool
is_signed n (pos m) = nat_lt m n
is_signed n (negsuc m) = nat_lt m n

-- from 0 to n - 1
abbrev pub is_unsigned : ℕ → ℤ → Bool
is_unsigned n (pos m) = nat_lt m n
is_unsigned n (negsuc m) = false

abbrev mutual
  -- a value fits a type when it is of that kind and, for integers, in the type's range; nothing fits Null
  pub fits : Kind → Datum → Bool
  fits booleans (boolean b) = true
  fits int8s (integer z) = is_signed 128 z
  fits int16s (integer z) = is_signed 32768 z
  fits int32s (integer z) = is_signed 2147483648 z
  fits int64s (integer z) = is_signed 9223372036854775808 z
  fits uint8s (integer z) = is_unsigned 256 z
  fits uint16s (integer z) = is_unsigned 65536 z
  fits uint32s (integer z) = is_unsigned 4294967296 z
  fits uint64s (integer z) = is_unsigned 18446744073709551616 z
  fits strings (text s) = true
  fits binaries (bytes s) = true
  fits (lists k) (list ds) = all_fit k ds
  fits _ _ = false

  -- each item of a list fits the type of its elements; a null always does
  pub all_fit : Kind → Slots → Bool
  all_fit k no_slots = true
  all_fit k (absent ds) = all_fit k ds
  all_fit k (present d ds) = fits k d && all_fit k ds

-- a null fits every type
abbrev pub slot_fits : Kind → Slot → Bool
slot_fits k None = true
slot_fits k (Some d) = fits k d

-- each place fits the type
abbrev pub slots_fit : Kind → List Slot → Bool
slots_fit k xs = list_all (slot_fits k) xs
