-- The last row of rows that are put together.
use Rattle.std.proofs.Common.{◌≡◌, ◌∙◌, ◌-◌, List, [], ◌∷◌, ◌++◌, Option, Some, None, length, option_map, slice_get, refl, sym, ap, arith}
use Rattle.std.specs.Option.{option_or}
use Rattle.std.proofs.lemmas.List.{append-nil}
use Rattle.px_value.specs.Datum.{Slot}

-- the last of a row and those after it
abbrev last_of : Slot → List Slot → Slot
last_of x [] = x
last_of x (y ∷ ys) = last_of y ys

last_there : (x : Slot) (xs : List Slot) → slice_get (x ∷ xs) (length xs) ≡ Some (last_of x xs)
last_there x [] = refl
last_there x (y ∷ ys) = last_there y ys

last_is : (x : Slot) (xs : List Slot) → slice_get (x ∷ xs) (length (x ∷ xs) - 1) ≡ Some (last_of x xs)
last_is x xs = let e : length (x ∷ xs) - 1 ≡ length xs = omega arith in ap (slice_get (x ∷ xs)) e ∙ last_there x xs

last_after : (x y : Slot) (xs ys : List Slot) → last_of x (xs ++ y ∷ ys) ≡ last_of y ys
last_after x y [] ys = refl
last_after x y (z ∷ xs) ys = last_after z y xs ys

last_append : (y : Slot) (xs ys : List Slot) → slice_get (xs ++ y ∷ ys) (length (xs ++ y ∷ ys) - 1) ≡ Some (last_of y ys)
last_append y [] ys = last_is y ys
last_append y (x ∷ xs) ys = last_is x (xs ++ y ∷ ys) ∙ ap Some (last_after x y xs ys)

-- the last row of two lists of rows is that of the second, where it has one
pub last_both : {V : Type 0} (f : V → Slot) (a b : Option V) (xs ys : List Slot) → option_map f a ≡ slice_get xs (length xs - 1) → option_map f b ≡ slice_get ys (length ys - 1) → option_map f (option_or b a) ≡ slice_get (xs ++ ys) (length (xs ++ ys) - 1)
last_both f a None xs [] h j = h ∙ ap (λ (zs : List Slot). slice_get zs (length zs - 1)) (sym (append-nil xs))
last_both f a (Some v) xs [] h j = cc
last_both f a None xs (y ∷ ys) h j = let e : None ≡ Some (last_of y ys) = j ∙ last_is y ys in cc
last_both f a (Some v) xs (y ∷ ys) h j = j ∙ last_is y ys ∙ sym (last_append y xs ys)
