-- What a loop over a list has made of its items, from its start to its end.
use Rattle.std.proofs.Common.{◌≡◌, ℕ, ◌+◌, ◌<◌, ◌≤◌, List, [], ◌∷◌, ◌++◌, Option, Some, None, length, drop, map, get_or, append-nil, arith, refl, sym, ◌∙◌, ap}
use Rattle.std.specs.List.{flat_map, sum_by}
use Rattle.std.proofs.lemmas.List.{at_drop_all}
use Rattle.std.proofs.lemmas.Option.{same_Some}
use Rattle.px_value.specs.declared.error.PxError.{PxError}
use Rattle.px_column.specs.Option.{each}
use Rattle.px_document.specs.Form.{with_front}
use Rattle.px_steps.proofs.Members.{at}

-- nothing is made at the start
pub front_start : {B : Type 0} (front : List B) (o : Option (List B)) → front ≡ [] → with_front front o ≡ o
front_start front None h = refl
front_start front (Some ys) h = ap (λ xs. Some (xs ++ ys)) h

pub made_start : {N B : Type 0} (view : N → B) (front : List N) (rest : List B) → front ≡ [] → map view front ++ rest ≡ rest
made_start view front rest h = ap (λ ns. map view ns ++ rest) h

map_more : {N B : Type 0} (view : N → B) (front : List N) (n : N) (rest : List B) → map view (front ++ n ∷ []) ++ rest ≡ map view front ++ view n ∷ rest
map_more view [] n rest = refl
map_more view (m ∷ front) n rest = ap (λ bs. view m ∷ bs) (map_more view front n rest)

-- one more item is made
pub made_next : {X A : Type 0} (v : X → A) (xs : List X) (i : ℕ) (x : X) → i < length xs → x ≡ get_or xs i x → {N B : Type 0} (view : N → B) (f : A → B) (front new : List N) (n : N) (all : List B)
    → map view front ++ map f (map v (drop i xs)) ≡ all → Some (f (v x)) ≡ Some (view n) → new ≡ front ++ n ∷ [] → map view new ++ map f (map v (drop (i + 1) xs)) ≡ all
made_next v xs i x below is view f front new n all h e made =
    let rest = map f (map v (drop (i + 1) xs)) in
    ap (λ ns. map view ns ++ rest) made
    ∙ map_more view front n rest
    ∙ ap (λ b. map view front ++ b ∷ rest) (sym (same_Some _ _ e))
    ∙ sym (at v xs i x below is (λ es. map view front ++ map f es)) ∙ h

-- a loop over a list, all of whose items were seen
module _ {X A : Type 0} (v : X → A) (xs : List X) (i : ℕ) (seen : length xs ≤ i) where
  at_end : {Y : Type 0} (f : List A → Y) → f (map v (drop i xs)) ≡ f []
  at_end f = at_drop_all (λ es. f (map v es)) xs i seen

  pub none_found : (f : A → List PxError) (all : List PxError) → flat_map f (map v (drop i xs)) ≡ all → all ≡ []
  none_found f all h = sym h ∙ at_end (flat_map f)

  pub all_made : {B : Type 0} (f : A → Option B) (front : List B) (all : Option (List B)) → with_front front (each f (map v (drop i xs))) ≡ all → all ≡ Some front
  all_made f front all h = sym h ∙ at_end (λ es. with_front front (each f es)) ∙ ap Some (append-nil front)

  pub all_listed : {N B : Type 0} (view : N → B) (f : A → B) (front : List N) (all : List B) → map view front ++ map f (map v (drop i xs)) ≡ all → all ≡ map view front
  all_listed view f front all h = sym h ∙ at_end (λ es. map view front ++ map f es) ∙ append-nil (map view front)

  pub all_counted : (f : A → ℕ) (now all : ℕ) → now + sum_by f (map v (drop i xs)) ≡ all → now ≡ all
  all_counted f now all h = let none : sum_by f (map v (drop i xs)) ≡ 0 = at_end (sum_by f) in omega (arith, h, none)

  pub all_most : (f : A → ℕ) (now all : ℕ) → now + sum_by f (map v (drop i xs)) ≤ all → now ≤ all
  all_most f now all h = omega (arith, h)

  pub all_least : (f : A → ℕ) (now all : ℕ) → all ≤ now + sum_by f (map v (drop i xs)) → all ≤ now
  all_least f now all h = let none : sum_by f (map v (drop i xs)) ≡ 0 = at_end (sum_by f) in omega (arith, h, none)
