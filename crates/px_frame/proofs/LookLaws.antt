-- Laws of columns that are found by their names, and of their lengths.
use Rattle.std.proofs.Common.{◌≡◌, ℕ, ◌==◌, Bool, true, false, cond, List, [], ◌∷◌, Some, option_map, length, map, refl, subst, arith}
use Rattle.std.specs.List.{find}
use Rattle.std.proofs.lemmas.Bool.Decides.{nat_tests}
use Rattle.px_value.proofs.FitLaws.{both}
use Rattle.px_column.specs.Prelude.{Series}
use Rattle.px_frame.specs.Frame.{all_have_height, has_height, has_name, is_even, look, name_eq, series_at}
use Rattle.px_frame.specs.Schema.{column_field, has_field_name}

-- equal names are the same name
pub names_same : (n m : List ℕ) → name_eq n m ≡ true → n ≡ m
names_same [] [] h = refl
names_same [] (y ∷ ys) h = cc
names_same (x ∷ xs) [] h = cc
names_same (x ∷ xs) (y ∷ ys) h =
    let s = both (x == y) (name_eq xs ys) h in
    let t : (x == y) ≡ true = s.0 in
    let e : x ≡ y = grind (arith, nat_tests) in
    λ i. e i ∷ names_same xs ys s.1 i

-- the field of a name is the one of its column
pub field_look : (n : List ℕ) (columns : List Series) → find (has_field_name n) (map column_field columns) ≡ option_map column_field (look n columns)
field_look n [] = refl
field_look n (s ∷ columns) = by (has_name n s) (field_look n columns)
  where
    by : (b : Bool) → find (has_field_name n) (map column_field columns) ≡ option_map column_field (look n columns)
        → cond b (Some (column_field s)) (find (has_field_name n) (map column_field columns)) ≡ option_map column_field (cond b (Some s) (look n columns))
    by true rest = refl
    by false rest = rest

-- of some rows, the column of a name is these rows of its column
pub look_rows : (n : List ℕ) (columns : List Series) (p : List ℕ) → look n (map (series_at p) columns) ≡ option_map (series_at p) (look n columns)
look_rows n [] p = refl
look_rows n (s ∷ columns) p = by (has_name n s) (look_rows n columns p)
  where
    by : (b : Bool) → find (has_name n) (map (series_at p) columns) ≡ option_map (series_at p) (find (has_name n) columns)
        → cond b (Some (series_at p s)) (find (has_name n) (map (series_at p) columns)) ≡ option_map (series_at p) (cond b (Some s) (find (has_name n) columns))
    by true rest = refl
    by false rest = rest

-- a column of n rows has the height n
pub has_length : (n : ℕ) (s : Series) → length s.slots ≡ n → has_height n s ≡ true
has_length n s h = grind (arith, nat_tests)

-- columns of one height are equally long
pub even_from : (n : ℕ) (columns : List Series) → all_have_height n columns ≡ true → is_even columns ≡ true
even_from n [] h = refl
even_from n (s ∷ columns) h = subst (λ (m : ℕ). all_have_height m (s ∷ columns) ≡ true) (same (both (has_height n s) (all_have_height n columns) h).0) h
  where
    same : has_height n s ≡ true → n ≡ length s.slots
    same t = grind (arith, nat_tests)
