-- Rows of one column are the same where their slots are.
use Rattle.std.proofs.Common.{◌≡◌, ◌∙◌, ℕ, ◌+◌, ◌<◌, ◌&&◌, ◌||◌, Bool, true, false, cond, List, [], ◌∷◌, ◌++◌, Some, None, length, map, fold, take, refl, ap, sym}
use Rattle.std.specs.List.{list_any}
use Rattle.std.proofs.lemmas.List.{map_push}
use Rattle.px_value.specs.Datum.{Slot}
use Rattle.px_value.specs.Decided.{slot_decides}
use Rattle.px_value.specs.Equality.{datum_eq, slot_eq, row_eq}
use Rattle.px_operation.specs.Reduction.{with_slot, distinct_slots}
use Rattle.px_value.specs.Series.{slot_at}
use Rattle.px_column.specs.Key.{row_of}
use Rattle.px_column.proofs.Taking.{fold_row}

and_true : (b : Bool) → (b && true) ≡ b
and_true true = refl
and_true false = refl

row_eq_one : (a b : Slot) → row_eq (row_of a) (row_of b) ≡ slot_eq a b
row_eq_one None None = refl
row_eq_one None (Some d) = refl
row_eq_one (Some c) None = refl
row_eq_one (Some c) (Some d) = and_true (datum_eq c d)

any_row : (s : Slot) (seen : List Slot) → list_any (row_eq (row_of s)) (map row_of seen) ≡ list_any (slot_eq s) seen
any_row s [] = refl
any_row s (x ∷ xs) = λ i. row_eq_one s x i || any_row s xs i

either : (b : Bool) (seen : List Slot) (s : Slot) → cond b (map row_of seen) (map row_of seen ++ row_of s ∷ []) ≡ map row_of (cond b seen (seen ++ s ∷ []))
either true seen s = refl
either false seen s = sym (map_push row_of seen s)

with_row : (seen : List Slot) (s : Slot) → cond (list_any (row_eq (row_of s)) (map row_of seen)) (map row_of seen) (map row_of seen ++ row_of s ∷ []) ≡ map row_of (with_slot seen s)
with_row seen s =
    ap (λ b. cond b (map row_of seen) (map row_of seen ++ row_of s ∷ [])) (any_row s seen) ∙ either (list_any (slot_eq s) seen) seen s

-- the rows seen, after one more
pub distinct_row : (xs : List Slot) (i : ℕ) (keys : List (List Slot)) (key : List Slot) → i < length xs → keys ≡ map row_of (distinct_slots (take i xs)) → key ≡ row_of (slot_at xs i)
    → cond (list_any (row_eq key) keys) keys (keys ++ key ∷ []) ≡ map row_of (distinct_slots (take (i + 1) xs))
distinct_row xs i keys key h e k =
    (λ j. cond (list_any (row_eq (k j)) (e j)) (e j) (e j ++ k j ∷ []))
    ∙ with_row (distinct_slots (take i xs)) (slot_at xs i) ∙ ap (map row_of) (sym (fold_row with_slot [] xs i h))

or_none : (b : Bool) → b ≡ (b || false)
or_none true = refl
or_none false = refl

or_same : (a b : Bool) → (b ≡ true → a ≡ true) → a ≡ (a || b)
or_same true b h = refl
or_same false true h = h refl
or_same false false h = refl

or_moved : (a b c : Bool) → ((a || b) || c) ≡ (a || (b || c))
or_moved true b c = refl
or_moved false b c = refl

any_push : (test : Slot → Bool) (xs : List Slot) (x : Slot) → list_any test (xs ++ x ∷ []) ≡ (list_any test xs || test x)
any_push test [] x = sym (or_none (test x))
any_push test (y ∷ ys) x = ap (λ b. test y || b) (any_push test ys x) ∙ sym (or_moved (test y) (list_any test ys) (test x))

any_with : (seen : List Slot) (x s : Slot) → list_any (slot_eq s) (with_slot seen x) ≡ (list_any (slot_eq s) seen || slot_eq s x)
any_with seen x s = by (list_any (slot_eq x) seen) refl
  where
    by : (b : Bool) → list_any (slot_eq x) seen ≡ b → list_any (slot_eq s) (cond b seen (seen ++ x ∷ [])) ≡ (list_any (slot_eq s) seen || slot_eq s x)
    by true e = or_same (list_any (slot_eq s) seen) (slot_eq s x) (λ h. ap (λ y. list_any (slot_eq y) seen) ((slot_decides s x).0 h) ∙ e)
    by false e = any_push (slot_eq s) seen x

any_from : (seen xs : List Slot) (s : Slot) → list_any (slot_eq s) (fold with_slot seen xs) ≡ (list_any (slot_eq s) seen || list_any (slot_eq s) xs)
any_from seen [] s = or_none (list_any (slot_eq s) seen)
any_from seen (x ∷ xs) s =
    any_from (with_slot seen x) xs s ∙ ap (λ b. b || list_any (slot_eq s) xs) (any_with seen x s) ∙ or_moved (list_any (slot_eq s) seen) (slot_eq s x) (list_any (slot_eq s) xs)

-- a table of the distinct rows holds each row
pub any_distinct : (xs : List Slot) (s : Slot) → list_any (row_eq (row_of s)) (map row_of (distinct_slots xs)) ≡ list_any (slot_eq s) xs
any_distinct xs s = any_row s (distinct_slots xs) ∙ any_from [] xs s
