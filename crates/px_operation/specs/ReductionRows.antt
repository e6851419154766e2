-- The reductions of null 2 1, of no row, and of texts and lists.
use Rattle.std.specs.Prelude.{◌≡◌, true, false, List, [], ◌∷◌, codes}
use Rattle.px_value.specs.Datum.{Slot}
use Rattle.px_value.specs.Kind.{booleans, int64s, uint8s, strings, lists}
use Rattle.px_operation.specs.Reduction.{reduced_slot}
use Rattle.px_value.specs.Rows.{num, neg, yes, no, gone, list_slot, text_of}
use Rattle.px_value.specs.declared.method.GroupByMethod.TheVariants.{Min, Max, Sum, First, Last, NUnique, Count, Implode}

-- the rows null 2 1
abbrev pub null_two_one : List Slot
null_two_one = gone ∷ num 2 ∷ num 1 ∷ []

-- all the small cases of reductions
pub record ReductionRows : Type 0 where
  pub min : reduced_slot Min int64s null_two_one ≡ num 1
  pub max : reduced_slot Max int64s null_two_one ≡ num 2
  pub sum : reduced_slot Sum int64s null_two_one ≡ num 3
  pub first : reduced_slot First int64s null_two_one ≡ gone
  pub last : reduced_slot Last int64s null_two_one ≡ num 1
  pub distinct : reduced_slot NUnique int64s null_two_one ≡ num 3
  pub count : reduced_slot (Count true) int64s null_two_one ≡ num 3
  pub count_present : reduced_slot (Count false) int64s null_two_one ≡ num 2
  pub implode : reduced_slot Implode int64s null_two_one ≡ list_slot null_two_one
  pub min_none : reduced_slot Min int64s [] ≡ gone
  pub max_none : reduced_slot Max int64s [] ≡ gone
  pub sum_none : reduced_slot Sum int64s [] ≡ num 0
  pub first_none : reduced_slot First int64s [] ≡ gone
  pub last_none : reduced_slot Last int64s [] ≡ gone
  pub distinct_none : reduced_slot NUnique int64s [] ≡ num 0
  pub count_none : reduced_slot (Count true) int64s [] ≡ num 0
  pub implode_none : reduced_slot Implode int64s [] ≡ list_slot []
  pub min_nulls : reduced_slot Min int64s (gone ∷ gone ∷ []) ≡ gone
  pub sum_nulls : reduced_slot Sum int64s (gone ∷ gone ∷ []) ≡ num 0
  pub distinct_nulls : reduced_slot NUnique int64s (gone ∷ num 2 ∷ gone ∷ num 2 ∷ []) ≡ num 2
  pub min_texts : reduced_slot Min strings (text_of (codes "b") ∷ text_of (codes "ab") ∷ []) ≡ text_of (codes "ab")
  pub max_truths : reduced_slot Max booleans (no ∷ yes ∷ gone ∷ []) ≡ yes
  pub min_negative : reduced_slot Min int64s (num 1 ∷ neg 2 ∷ neg 1 ∷ []) ≡ neg 2
  pub sum_wider : reduced_slot Sum uint8s (num 200 ∷ num 100 ∷ []) ≡ num 300
  pub sum_truths : reduced_slot Sum booleans (yes ∷ gone ∷ yes ∷ []) ≡ num 2
  pub first_list : reduced_slot First (lists int64s) (list_slot [] ∷ []) ≡ list_slot []
