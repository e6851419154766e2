-- What holds of a list holds of an item of it, and what holds of an item may hold of the list.
use Rattle.std.proofs.Common.{◌≡◌, ◌⊎◌, inl, inr, ℕ, zero, suc, ◌+◌, ◌<◌, ◌≤◌, ◌^◌, Bool, true, List, [], ◌∷◌, ◌++◌, Option, Some, None, Result, Ok, Err, OnOk, option_map, option_and_then, length, drop, map, get_or, append_assoc, refl, sym, ◌∙◌, ap, arith, subst}
use Rattle.std.specs.List.{flat_map, list_all, sum_by}
use Rattle.std.proofs.lemmas.List.{at_drop_more}
use Rattle.std.proofs.lemmas.List.Sums.{sum_by-cons}
use Rattle.px_value.specs.declared.error.PxError.{PxError}
use Rattle.px_answers.specs.Value.{IsOneOf}
use Rattle.px_steps.specs.Finds.{Lacks}
use Rattle.px_column.specs.Option.{each}
use Rattle.px_document.specs.Form.{with_front}
use Rattle.px_steps.specs.Meets.{IsFirst}
use Rattle.px_steps.specs.Plain.{greatest}
use Rattle.px_value.proofs.FitLaws.{both}
use Rattle.px_steps.proofs.Named.{IsFirst_append}
use Rattle.px_steps.proofs.Misfits.{one_left, one_right}
use Rattle.px_tree.proofs.KindLaws.{none_left as nil_left, none_right as nil_right}

-- an item stands in a list
abbrev pub In : {A : Type 0} → A → List A → Type 0
In x [] = ⊥
In x (y ∷ ys) = (x ≡ y) ⊎ In x ys

pub in_at : {A : Type 0} (xs : List A) (i : ℕ) (x : A) → i < length xs → x ≡ get_or xs i x → In x xs
in_at [] i x h e = absurd (omega (arith, h))
in_at (y ∷ ys) zero x h e = inl e
in_at (y ∷ ys) (suc i) x h e = inr (in_at ys i x (omega (arith, h)) e)

pub in_map : {A B : Type 0} (f : A → B) (xs : List A) (x : A) → In x xs → In (f x) (map f xs)
in_map f [] x h = absurd h
in_map f (y ∷ ys) x (inl e) = inl (ap f e)
in_map f (y ∷ ys) x (inr h) = inr (in_map f ys x h)

pub in_all : {A : Type 0} (test : A → Bool) (xs : List A) (x : A) → In x xs → list_all test xs ≡ true → test x ≡ true
in_all test [] x h a = absurd h
in_all test (y ∷ ys) x (inl e) a = ap test e ∙ (both (test y) (list_all test ys) a).0
in_all test (y ∷ ys) x (inr h) a = in_all test ys x h (both (test y) (list_all test ys) a).1

pub in_none : {A : Type 0} (f : A → List PxError) (xs : List A) (x : A) → In x xs → flat_map f xs ≡ [] → f x ≡ []
in_none f [] x h n = absurd h
in_none f (y ∷ ys) x (inl e) n = ap f e ∙ nil_left (f y) (flat_map f ys) n
in_none f (y ∷ ys) x (inr h) n = in_none f ys x h (nil_right (f y) (flat_map f ys) n)

one_same : (e : PxError) (xs ys : List PxError) → xs ≡ ys → IsOneOf e xs → IsOneOf e ys
one_same e xs ys s h = let P : List PxError → Type 0 = IsOneOf e in subst P s h

pub in_one : {A : Type 0} (f : A → List PxError) (xs : List A) (x : A) (e : PxError) → In x xs → IsOneOf e (f x) → IsOneOf e (flat_map f xs)
in_one f [] x e h o = absurd h
in_one f (y ∷ ys) x e (inl s) o = one_left e (f y) (flat_map f ys) (one_same e (f x) (f y) (ap f s) o)
in_one f (y ∷ ys) x e (inr h) o = one_right e (f y) (flat_map f ys) (in_one f ys x e h o)

pub in_greatest : {A : Type 0} (f : A → ℕ) (xs : List A) (x : A) → In x xs → f x ≤ greatest (map f xs)
in_greatest f [] x h = absurd h
in_greatest f (y ∷ ys) x (inl e) = let same : f x ≡ f y = ap f e in omega arith
in_greatest f (y ∷ ys) x (inr h) = let rest = in_greatest f ys x h in omega (arith, rest)

-- what holds holds on Ok
pub on_ok : {X E P : Type 0} (r : Result X E) → P → OnOk r P
on_ok (Ok x) h = h
on_ok (Err e) h = tt

-- one more made value moves to the front
pub front_moved : {A B : Type 0} (f : A → Option B) (x : A) (xs : List A) (front : List B) (y : B) → f x ≡ Some y → with_front (front ++ y ∷ []) (each f xs) ≡ with_front front (each f (x ∷ xs))
front_moved {A} {B} f x xs front y e =
    moved (each f xs) ∙ ap (λ o. with_front front (option_and_then (λ z. option_map (λ ys. z ∷ ys) (each f xs)) o)) (sym e)
  where
    moved : (o : Option (List B)) → with_front (front ++ y ∷ []) o ≡ with_front front (option_map (λ ys. y ∷ ys) o)
    moved None = refl
    moved (Some ys) = ap Some (append_assoc front (y ∷ []) ys)

-- a loop over a list, of whose items a part is seen, at the item x
module _ {X A : Type 0} (v : X → A) (xs : List X) (i : ℕ) (x : X) (below : i < length xs) (is : x ≡ get_or xs i x) where
  pub at : {Y : Type 0} (f : List A → Y) → f (map v (drop i xs)) ≡ f (v x ∷ map v (drop (i + 1) xs))
  at f = at_drop_more (λ es. f (map v es)) xs i x below ∙ ap (λ e. f (v e ∷ map v (drop (i + 1) xs))) (sym is)

  pub in_here : In (v x) (map v xs)
  in_here = in_map v xs x (in_at xs i x below is)

  pub sound_next : (f : A → List PxError) (all : List PxError) → flat_map f (map v (drop i xs)) ≡ all → f (v x) ≡ [] → flat_map f (map v (drop (i + 1) xs)) ≡ all
  sound_next f all h e = sym (at (flat_map f) ∙ ap (λ es. es ++ flat_map f (map v (drop (i + 1) xs))) e) ∙ h

  pub first_here : (f : A → List PxError) (e : PxError) → flat_map f (map v (drop i xs)) ≡ flat_map f (map v xs) → IsFirst e (f (v x)) → IsFirst e (flat_map f (map v xs))
  first_here f e h n = subst (λ (es : List PxError). IsFirst e es) (sym (at (flat_map f)) ∙ h) (IsFirst_append e (f (v x)) (flat_map f (map v (drop (i + 1) xs))) n)

  pub least_next : (f : A → ℕ) (all old new : ℕ) → all ≤ old + sum_by f (map v (drop i xs)) → old + f (v x) ≤ new → all ≤ new + sum_by f (map v (drop (i + 1) xs))
  least_next f all old new h one = omega (arith, h, one, at (sum_by f), sum_by-cons f (v x) (map v (drop (i + 1) xs)))

  pub most_next : (f : A → ℕ) (all old new : ℕ) → old + sum_by f (map v (drop i xs)) ≤ all → new ≤ old + f (v x) → new + sum_by f (map v (drop (i + 1) xs)) ≤ all
  most_next f all old new h one = omega (arith, h, one, at (sum_by f), sum_by-cons f (v x) (map v (drop (i + 1) xs)))

  pub exactly_next : (f : A → ℕ) (all old new : ℕ) → old + sum_by f (map v (drop i xs)) ≡ all → new ≡ old + f (v x) → new + sum_by f (map v (drop (i + 1) xs)) ≡ all
  exactly_next f all old new h one = omega (arith, h, one, at (sum_by f), sum_by-cons f (v x) (map v (drop (i + 1) xs)))

  pub within_here : (f : A → ℕ) (all old new : ℕ) → old + sum_by f (map v (drop i xs)) ≡ all → new ≤ old + f (v x) → new ≤ all
  within_here f all old new h one = omega (arith, h, one, at (sum_by f), sum_by-cons f (v x) (map v (drop (i + 1) xs)))

  pub values_next : {B : Type 0} (f : A → Option B) (front new : List B) (b : B) (all : Option (List B)) → with_front front (each f (map v (drop i xs))) ≡ all → f (v x) ≡ Some b → new ≡ front ++ b ∷ []
      → with_front new (each f (map v (drop (i + 1) xs))) ≡ all
  values_next f front new b all h e made =
      ap (λ bs. with_front bs (each f (map v (drop (i + 1) xs)))) made
      ∙ front_moved f (v x) (map v (drop (i + 1) xs)) front b e
      ∙ sym (at (λ es. with_front front (each f es))) ∙ h

-- what lacks at an item lacks at all, among no fewer values
pub lacks_in : {A : Type 0} (e : PxError) (faults : A → List PxError) (size : A → ℕ) (xs : List A) (x : A) → In x xs → Lacks e (faults x) (size x) → Lacks e (flat_map faults xs) (greatest (map size xs))
lacks_in e faults size xs x h (inl m) = inl m
lacks_in e faults size xs x h (inr (inl o)) = inr (inl (in_one faults xs x e h o))
lacks_in e faults size xs x h (inr (inr l)) = inr (inr (l.0, longer (size x) (greatest (map size xs)) l.1 (in_greatest size xs x h)))
  where
    longer : (m n : ℕ) → 2 ^ 32 ≤ m → m ≤ n → 2 ^ 32 ≤ n
    longer m n p q = omega arith
