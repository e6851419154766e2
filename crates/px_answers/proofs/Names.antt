-- Fronts of names that were added.
use Rattle.std.proofs.Common.{◌≡◌, ℕ, zero, suc, List, [], ◌∷◌, ◌++◌, take, length, refl, sym, ◌∙◌, ap}
use Rattle.px_tree.specs.Tree.{Tree, alias}
use Rattle.px_answers.specs.Live.{added, AddsFront, live_names}
use Rattle.px_answers.specs.Planned.{Planned}

-- a front of a list is a front of a longer one
take_more : {X : Type 0} (n : ℕ) (xs ys : List X) → (k : ℕ) × (take k (xs ++ ys) ≡ take n xs)
take_more zero xs ys = (0, refl)
take_more (suc n) [] ys = (0, refl)
take_more (suc n) (x ∷ xs) ys = let r = take_more n xs ys in (suc r.0, ap (λ zs. x ∷ zs) r.1)

-- and so is the whole of it
take_whole : {X : Type 0} (xs ys : List X) → take (length xs) (xs ++ ys) ≡ xs
take_whole [] ys = refl
take_whole (x ∷ xs) ys = ap (λ zs. x ∷ zs) (take_whole xs ys)

pub front_more : (set names more now : List (List ℕ)) → AddsFront set names now → AddsFront set (names ++ more) now
front_more set names more now h = let r = take_more h.0 names more in (r.0, h.1 ∙ ap (added set) (sym r.1))

pub front_whole : (set names more now : List (List ℕ)) → now ≡ added set names → AddsFront set (names ++ more) now
front_whole set names more now h = (length names, h ∙ ap (added set) (sym (take_whole names more)))

-- for an alias, whose name comes last
pub alias_front : (p : Planned) (q : Tree) (n : List ℕ) (set now : List (List ℕ)) → p.tree ≡ alias q n → AddsFront set (live_names q) now → AddsFront set (live_names p.tree) now
alias_front p q n set now h f = rw h (front_more set (live_names q) (n ∷ []) now f)

pub alias_whole : (p : Planned) (q : Tree) (n : List ℕ) (set now : List (List ℕ)) → p.tree ≡ alias q n → now ≡ added set (live_names q) → AddsFront set (live_names p.tree) now
alias_whole p q n set now h f = rw h (front_whole set (live_names q) (n ∷ []) now f)
