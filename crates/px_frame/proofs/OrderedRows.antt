-- Rows in the order of a column are those rows.
use Rattle.std.proofs.Common.{◌≡◌, ℕ, ◌+◌, Bool, true, false, cond, List, [], ◌∷◌, ◌++◌, Option, Some, None, length, map, fold, refl, sym, ◌∙◌, ap, subst, append-nil, append_assoc, length-append}
use Rattle.std.proofs.Math.Seq.{get_or-append_seam}
use Rattle.std.specs.List.{AllZip, concat, range_with_len, slice_index}
use Rattle.std.specs.List.Sorted.{IsPermutation}
use Rattle.std.specs.Ordering.{is_lt}
use Rattle.std.proofs.lemmas.List.Sorted.{IsPermutation-refl, IsPermutation-sym, IsPermutation-trans, IsPermutation-cons, IsPermutation-append, IsPermutation-append_left, IsPermutation-map, IsPermutation-middle}
use Rattle.px_column.specs.Prelude.{Slot, Series}
use Rattle.px_column.specs.Order.{row_cmp, with_row, sorted_rows}
use Rattle.px_value.specs.declared.sort_options.SortOptions.{SortOptions}
use Rattle.px_frame.specs.Frame.{slots_at}
use Rattle.px_frame.specs.Ordered.{in_order, ordered_parts}
use Rattle.px_frame.specs.Parts.{parts_of}
use Rattle.px_frame.proofs.PartRows.{each_row_once}

module _ (keys : List (SortOptions × List Slot)) where
  -- a row put in its place is one more row
  put_in : (js : List ℕ) (i : ℕ) → IsPermutation (i ∷ js) (with_row keys js i)
  put_in [] i = IsPermutation-refl (i ∷ [])
  put_in (j ∷ js) i = by (is_lt (row_cmp keys i j)) (put_in js i)
    where
      by : (b : Bool) → IsPermutation (i ∷ js) (with_row keys js i) → IsPermutation (i ∷ j ∷ js) (cond b (i ∷ j ∷ js) (j ∷ with_row keys js i))
      by true rest = IsPermutation-refl (i ∷ j ∷ js)
      by false rest = IsPermutation-trans _ _ _ (IsPermutation-sym _ _ (IsPermutation-middle (j ∷ []) i js)) (IsPermutation-cons j _ _ rest)

  -- rows put in one after another
  all_put_in : (rs js : List ℕ) → IsPermutation (js ++ rs) (fold (with_row keys) js rs)
  all_put_in [] js = subst (λ ns. IsPermutation ns js) (sym (append-nil js)) (IsPermutation-refl js)
  all_put_in (r ∷ rs) js =
      IsPermutation-trans _ _ _ (IsPermutation-middle js r rs) (IsPermutation-trans _ _ _ (IsPermutation-append_left rs _ _ (put_in js r)) (all_put_in rs (with_row keys js r)))

  -- rows in the order of some keys are the rows, each once
  pub sorted_once : (n : ℕ) → IsPermutation (range_with_len 0 n) (sorted_rows keys n)
  sorted_once n = all_put_in (range_with_len 0 n) []

-- a list at its own places
at_places : (before rows : List ℕ) → map (slice_index (before ++ rows)) (range_with_len (length before) (length rows)) ≡ rows
at_places before [] = refl
at_places before (r ∷ rows) =
    λ i. get_or-append_seam before r rows 0 i ∷ (ap (λ n. map (slice_index (before ++ r ∷ rows)) (range_with_len n (length rows))) (sym size) ∙ ap (λ ns. map (slice_index ns) (range_with_len (length (before ++ r ∷ [])) (length rows))) (sym (append_assoc before (r ∷ []) rows)) ∙ at_places (before ++ r ∷ []) rows) i
  where
    size : length (before ++ r ∷ []) ≡ length before + 1
    size = length-append before (r ∷ [])

-- rows in the order of a column are those rows
pub in_order_once : (s : Series) (options : SortOptions) (rows : List ℕ) → IsPermutation rows (in_order s options rows)
in_order_once s options rows =
    let keys : List (SortOptions × List Slot) = (options, slots_at s.slots rows) ∷ [] in
    subst (λ ns. IsPermutation ns (in_order s options rows)) (at_places [] rows) (IsPermutation-map (slice_index rows) (range_with_len 0 (length rows)) (sorted_rows keys (length rows)) (sorted_once keys (length rows)))

-- lists that are each put in another order, joined
joined_once : (f : List ℕ → List ℕ) → ((p : List ℕ) → IsPermutation p (f p)) → (ps : List (List ℕ)) → IsPermutation (concat ps) (concat (map f ps))
joined_once f moves [] = IsPermutation-refl []
joined_once f moves (p ∷ ps) = IsPermutation-append p (f p) _ _ (moves p) (joined_once f moves ps)

-- the ordered parts hold each row once
pub each_ordered_row_once : (by : List Series) (order : Option (Series × SortOptions)) (n : ℕ) → IsPermutation (range_with_len 0 n) (concat (ordered_parts by order n))
each_ordered_row_once by None n = each_row_once by n
each_ordered_row_once by (Some o) n =
    IsPermutation-trans _ _ _ (each_row_once by n) (joined_once (in_order o.0 o.1) (in_order_once o.0 o.1) (parts_of by n))

-- each list is put in another order
moved_each : (f : List ℕ → List ℕ) → ((p : List ℕ) → IsPermutation p (f p)) → (ps : List (List ℕ)) → AllZip IsPermutation ps (map f ps)
moved_each f moves [] = tt
moved_each f moves (p ∷ ps) = (moves p, moved_each f moves ps)

-- or left as it is
unmoved : (ps : List (List ℕ)) → AllZip IsPermutation ps ps
unmoved [] = tt
unmoved (p ∷ ps) = (IsPermutation-refl p, unmoved ps)

-- each part is put in another order by itself
pub each_part_moved : (by : List Series) (order : Option (Series × SortOptions)) (n : ℕ) → AllZip IsPermutation (parts_of by n) (ordered_parts by order n)
each_part_moved by None n = unmoved (parts_of by n)
each_part_moved by (Some o) n = moved_each (in_order o.0 o.1) (in_order_once o.0 o.1) (parts_of by n)
