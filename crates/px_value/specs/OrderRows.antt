-- How small values and rows are sorted: both directions, equal rows, nulls at either end, several keys.
use Rattle.std.specs.Prelude.{◌≡◌, ℕ, Bool, true, false, List, [], ◌∷◌, codes}
use Rattle.std.specs.declared.cmp.Ordering.TheVariants.{Less, Equal, Greater}
use Rattle.px_value.specs.Datum.{boolean, text, bytes, Slot}
use Rattle.px_value.specs.Order.{datum_cmp, slot_cmp, sorted_rows, flags_for, sort_keys}
use Rattle.px_value.specs.Rows.{num, neg, yes, no, gone}
use Rattle.px_value.specs.declared.sort_options.SortOptions.{SortOptions}

-- descending or not, and nulls last or not
abbrev pub by : Bool → Bool → SortOptions
by descending nulls_last = record { descending = descending; nulls_last = nulls_last }

-- the rows 2 null 1 2 null by one key
abbrev pub five : List Slot
five = num 2 ∷ gone ∷ num 1 ∷ num 2 ∷ gone ∷ []

-- the five rows sorted, descending or not, nulls last or not
abbrev pub five_sorted : Bool → Bool → List ℕ
five_sorted descending nulls_last = sorted_rows ((by descending nulls_last, five) ∷ []) 5

-- all the small cases of order
pub record OrderRows : Type 0 where
  pub truths : datum_cmp (boolean false) (boolean true) ≡ Less
  pub texts : datum_cmp (text (codes "b")) (text (codes "ab")) ≡ Greater
  pub bytes_front : datum_cmp (bytes (1 ∷ [])) (bytes (1 ∷ 0 ∷ [])) ≡ Less
  pub same_texts : datum_cmp (text (codes "a")) (text (codes "a")) ≡ Equal
  pub up : slot_cmp (by false false) (neg 3) (num 2) ≡ Less
  pub down : slot_cmp (by true false) (neg 3) (num 2) ≡ Greater
  pub null_first : slot_cmp (by false false) gone (neg 3) ≡ Less
  pub null_first_down : slot_cmp (by true false) gone (neg 3) ≡ Less
  pub null_last : slot_cmp (by false true) gone (neg 3) ≡ Greater
  pub null_last_down : slot_cmp (by true true) (neg 3) gone ≡ Less
  pub nulls : slot_cmp (by true true) gone gone ≡ Equal
  pub five_up : five_sorted false false ≡ 1 ∷ 4 ∷ 2 ∷ 0 ∷ 3 ∷ []
  pub five_up_nulls_last : five_sorted false true ≡ 2 ∷ 0 ∷ 3 ∷ 1 ∷ 4 ∷ []
  pub five_down : five_sorted true false ≡ 1 ∷ 4 ∷ 0 ∷ 3 ∷ 2 ∷ []
  pub five_down_nulls_last : five_sorted true true ≡ 0 ∷ 3 ∷ 2 ∷ 1 ∷ 4 ∷ []
  pub no_row : sorted_rows ((by false false, []) ∷ []) 0 ≡ []
  pub no_key : sorted_rows [] 3 ≡ 0 ∷ 1 ∷ 2 ∷ []
  pub two_keys : sorted_rows ((by false false, num 2 ∷ num 1 ∷ num 2 ∷ num 1 ∷ []) ∷ (by true false, num 5 ∷ num 6 ∷ num 7 ∷ num 6 ∷ []) ∷ []) 4 ≡ 1 ∷ 3 ∷ 2 ∷ 0 ∷ []
  pub flags_kept : flags_for (true ∷ false ∷ []) 2 ≡ true ∷ false ∷ []
  pub no_flag : flags_for [] 2 ≡ false ∷ false ∷ []
  pub one_flag : flags_for (true ∷ []) 3 ≡ true ∷ true ∷ true ∷ []
  pub first_flag : flags_for (true ∷ false ∷ []) 3 ≡ true ∷ true ∷ true ∷ []
  pub more_flags : flags_for (false ∷ true ∷ []) 1 ≡ false ∷ []
  pub keys : sort_keys (record { descending = true ∷ []; nulls_last = false ∷ true ∷ [] }) ((yes ∷ []) ∷ (no ∷ []) ∷ []) ≡ (by true false, yes ∷ []) ∷ (by true true, no ∷ []) ∷ []
