-- Cells that are spread one after another, and the frame that they make.
use Rattle.std.proofs.Common.{◌≡◌, ℕ, ◌^◌, ◌<◌, lit<, ◌==◌, Bool, true, false, ◌&&◌, cond, List, [], ◌∷◌, ◌++◌, Option, Some, None, Result, Ok, Err, length, map, replicate, refl, sym, ◌∙◌, ap, arith}
use Rattle.std.proofs.lemmas.Bool.Decides.{nat_tests}
use Rattle.std.proofs.lemmas.List.{length-replicate}
use Rattle.px_column.specs.Prelude.{Slot, Series}
use Rattle.px_value.specs.declared.error.PxError.{PxError}
use Rattle.px_value.specs.declared.error.PxError.TheVariants.{ShapeMismatch}
use Rattle.px_frame.specs.Cell.{Cell, unit, rows}
use Rattle.px_frame.specs.Frame.{names_of, height_of, has_height, all_have_height, is_even, IsFrame, first_repeat, unless_repeated}
use Rattle.px_frame.specs.Spread.{NamedCell, spread, spread_all, with_slots, before_all}
use Rattle.px_frame.proofs.Each.{has_height_is}
use Rattle.px_value.proofs.FitLaws.{both}

-- columns that are made already, before others
abbrev pub after : List Series → Result (List Series) PxError → Result (List Series) PxError
after made (Ok ss) = Ok (made ++ ss)
after made (Err e) = Err e

spread_names : (n : ℕ) (cells : List NamedCell) (ss : List Series) → spread_all n cells ≡ Ok ss → names_of ss ≡ map (λ c. c.name) cells
spread_names n [] ss e = let same : ss ≡ [] = cc in ap names_of same
spread_names n (c ∷ cells) ss e = by (spread n c.cell) (spread_all n cells) (spread_names n cells) e
  where
    by : (r : Result (List Slot) PxError) (rs : Result (List Series) PxError) → ((ts : List Series) → rs ≡ Ok ts → names_of ts ≡ map (λ d. d.name) cells) → before_all (with_slots c r) rs ≡ Ok ss
        → names_of ss ≡ c.name ∷ map (λ d. d.name) cells
    by (Ok xs) (Ok ts) rest h = let same : ss ≡ record { name = c.name; kind = c.kind; slots = xs } ∷ ts = cc in ap names_of same ∙ ap (λ ns. c.name ∷ ns) (rest ts refl)
    by (Ok xs) (Err x) rest h = cc
    by (Err x) rs rest h = cc

same_number : (m n : ℕ) → m ≡ n → (m == n) ≡ true
same_number m n h = grind (arith, nat_tests)

spread_height : (n : ℕ) (cell : Cell) (xs : List Slot) → spread n cell ≡ Ok xs → (length xs == n) ≡ true
spread_height n (unit s) xs e = let same : xs ≡ replicate n s = cc in same_number (length xs) n (ap length same ∙ length-replicate n s)
spread_height n (rows ys) xs e = by (length ys == n) refl e
  where
    by : (b : Bool) → (length ys == n) ≡ b → cond b (Ok ys) (Err ShapeMismatch) ≡ Ok xs → (length xs == n) ≡ true
    by true h f = let same : xs ≡ ys = cc in ap (λ zs. length zs == n) same ∙ h
    by false h f = cc

spread_heights : (n : ℕ) (cells : List NamedCell) (ss : List Series) → spread_all n cells ≡ Ok ss → all_have_height n ss ≡ true
spread_heights n [] ss e = let same : ss ≡ [] = cc in ap (all_have_height n) same
spread_heights n (c ∷ cells) ss e = by (spread n c.cell) (spread_height n c.cell) (spread_all n cells) (spread_heights n cells) e
  where
    by : (r : Result (List Slot) PxError) → ((xs : List Slot) → r ≡ Ok xs → (length xs == n) ≡ true) → (rs : Result (List Series) PxError) → ((ts : List Series) → rs ≡ Ok ts → all_have_height n ts ≡ true)
        → before_all (with_slots c r) rs ≡ Ok ss → all_have_height n ss ≡ true
    by (Ok xs) one (Ok ts) rest h =
        let same : ss ≡ record { name = c.name; kind = c.kind; slots = xs } ∷ ts = cc in
        ap (all_have_height n) same ∙ (λ i. one xs refl i && rest ts refl i)
    by (Ok xs) one (Err x) rest h = cc
    by (Err x) one rs rest h = cc

even_at : (n : ℕ) (ss : List Series) → all_have_height n ss ≡ true → is_even ss ≡ true
even_at n [] h = refl
even_at n (s ∷ ss) h = ap (λ m. all_have_height m (s ∷ ss)) (has_height_is n s (both (has_height n s) (all_have_height n ss) h).0) ∙ h

-- columns of n rows are no higher than that
pub short_at : (n : ℕ) (ss : List Series) → n < 2 ^ 32 → all_have_height n ss ≡ true → height_of ss < 2 ^ 32
short_at n [] b h = lit< tt
short_at n (s ∷ ss) b h = omega (arith, has_height_is n s (both (has_height n s) (all_have_height n ss) h).0)

-- and so is what is spread to n rows
pub short-beside : (n : ℕ) (cells : List NamedCell) (ss : List Series) → n < 2 ^ 32 → spread_all n cells ≡ Ok ss → height_of ss < 2 ^ 32
short-beside n cells ss b e = short_at n ss b (spread_heights n cells ss e)

-- no name stands twice, and these are the names
pub unrepeated : {X : Type 0} (r : Option (List ℕ)) (made given : X) → unless_repeated r (Ok made) ≡ Ok given → (r ≡ None) × (made ≡ given)
unrepeated None made given h = (refl, cc)
unrepeated (Some n) made given h = cc

-- what the cells' columns are named
pub names_beside : (n : ℕ) (cells : List NamedCell) (ss : List Series) (ns : List (List ℕ)) → unless_repeated (first_repeat [] (map (λ c. c.name) cells)) (Ok (map (λ c. c.name) cells)) ≡ Ok ns
    → spread_all n cells ≡ Ok ss → ns ≡ names_of ss
names_beside n cells ss ns h e = sym (unrepeated _ _ ns h).1 ∙ sym (spread_names n cells ss e)

pub IsFrame-beside : (n : ℕ) (cells : List NamedCell) (ss : List Series) (ns : List (List ℕ)) → unless_repeated (first_repeat [] (map (λ c. c.name) cells)) (Ok (map (λ c. c.name) cells)) ≡ Ok ns
    → spread_all n cells ≡ Ok ss → IsFrame ss
IsFrame-beside n cells ss ns h e = record {
  distinct = ap (first_repeat []) (spread_names n cells ss e) ∙ (unrepeated _ _ ns h).0;
  even = even_at n ss (spread_heights n cells ss e);
}
