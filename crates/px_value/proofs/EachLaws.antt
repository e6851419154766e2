-- Laws of what is made of each item, where all of it is made.
use Rattle.std.proofs.Common.{◌≡◌, Bool, true, ◌&&◌, List, [], ◌∷◌, Option, Some, None, map, refl, ◌∙◌, ap, option_map, option_and_then}
use Rattle.std.specs.List.{list_all}
use Rattle.px_value.specs.Option.{each, ◌>>=◌}

record IsNext {B : Type 0} (o : Option B) (r : Option (List B)) (ys : List B) : Type 0 where
  item : B
  rest : List B
  made : o ≡ Some item
  others : r ≡ Some rest
  all : ys ≡ item ∷ rest

next : {B : Type 0} (o : Option B) (r : Option (List B)) (ys : List B) → option_and_then (λ y. option_map (λ zs. y ∷ zs) r) o ≡ Some ys → IsNext o r ys
next None r ys h = cc
next (Some y) None ys h = cc
next (Some y) (Some zs) ys h = record { item = y; rest = zs; made = refl; others = refl; all = cc }

none_left : {B : Type 0} (ys : List B) → Some [] ≡ Some ys → ys ≡ []
none_left ys h = cc

-- the same is made of each by functions that make the same of every item
pub each_same : {A B : Type 0} (f g : A → Option B) (xs : List A) → ((x : A) → f x ≡ g x) → each f xs ≡ each g xs
each_same f g [] h = refl
each_same f g (x ∷ xs) h = λ i. h x i >>= λ y. option_map (λ ys. y ∷ ys) (each_same f g xs h i)

-- something is made of each where something is made of every item
pub each_some : {A B : Type 0} (f : A → Option B) (g : A → B) (xs : List A) → ((x : A) → f x ≡ Some (g x)) → each f xs ≡ Some (map g xs)
each_some f g [] h = refl
each_some f g (x ∷ xs) h = rw (h x, each_some f g xs h) refl

module _ {A B : Type 0} (f : A → Option B) where
  -- what is seen of each made item is what is seen of the one that it is made of
  pub each_maps : {C : Type 0} (g : B → C) (h : A → C) → ((x : A) (y : B) → f x ≡ Some y → g y ≡ h x) → (xs : List A) (ys : List B) → each f xs ≡ Some ys → map g ys ≡ map h xs
  each_maps g h is [] ys e = ap (map g) (none_left ys e)
  each_maps g h is (x ∷ xs) ys e =
      let n = next (f x) (each f xs) ys e in
      ap (map g) n.all ∙ (λ i. is x n.item n.made i ∷ each_maps g h is xs n.rest n.others i)

  -- each made item passes a test that every made item passes
  pub each_passes : (test : B → Bool) → ((x : A) (y : B) → f x ≡ Some y → test y ≡ true) → (xs : List A) (ys : List B) → each f xs ≡ Some ys → list_all test ys ≡ true
  each_passes test is [] ys e = ap (list_all test) (none_left ys e)
  each_passes test is (x ∷ xs) ys e =
      let n = next (f x) (each f xs) ys e in
      ap (list_all test) n.all ∙ (λ i. is x n.item n.made i && each_passes test is xs n.rest n.others i)
