-- Groups that begin with their numbers `first`.
use Rattle.std.proofs.Common.{◌≡◌, ℕ, zero, suc, ◌<◌, ◌&&◌, true, nat_lt, List, [], ◌∷◌, ◌++◌, length, map, get_or, refl, sym, ◌∙◌, ap, arith}
use Rattle.std.proofs.Math.ListN.{set}
use Rattle.std.specs.declared.alloc.Global.{Global}
use Rattle.smallvec.specs.declared.SmallVec.{SmallVec}
use Rattle.std.specs.List.{list_all}
use Rattle.std.proofs.lemmas.Bool.Decides.{nat_tests}
use Rattle.px_frame.specs.Aggregate.{has_row}
use Rattle.px_frame.specs.Enter.{AreStarted}
use Rattle.px_frame.specs.Groups.{group_of, first_row}
use Rattle.px_frame.specs.GroupsView.{idx_group}

pub AreStarted-push : (gs : List (ℕ × SmallVec ℕ 1 Global)) (g : ℕ × SmallVec ℕ 1 Global) → AreStarted gs → g.1.items ≡ g.0 ∷ [] → AreStarted (gs ++ g ∷ [])
AreStarted-push [] g h e = (([], e), tt)
AreStarted-push (x ∷ xs) g h e = (h.0, AreStarted-push xs g h.1 e)

pub AreStarted-set : (gs : List (ℕ × SmallVec ℕ 1 Global)) (i row : ℕ) (g d : ℕ × SmallVec ℕ 1 Global) → AreStarted gs → i < length gs → g.0 ≡ (get_or gs i d).0 → g.1.items ≡ (get_or gs i d).1.items ++ row ∷ []
    → AreStarted (set gs i g)
AreStarted-set [] i row g d h n f e = absurd (omega (arith, n))
AreStarted-set (x ∷ xs) zero row g d h n f e = ((h.0.0 ++ row ∷ [], e ∙ ap (λ ys. ys ++ row ∷ []) h.0.1 ∙ ap (λ m. m ∷ (h.0.0 ++ row ∷ [])) (sym f)), h.1)
AreStarted-set (x ∷ xs) (suc i) row g d h n f e = (h.0, AreStarted-set xs i row g d h.1 (omega (arith, n)) f e)

-- their views are those of their rows alone
pub groups_of_rows : (gs : List (ℕ × SmallVec ℕ 1 Global)) → AreStarted gs → map idx_group gs ≡ map group_of (map (λ g. g.1.items) gs)
groups_of_rows [] h = refl
groups_of_rows (g ∷ gs) h = λ i. record { first = sym (ap first_row h.0.1) i; rows = g.1.items } ∷ groups_of_rows gs h.1 i

-- each of them has a row
pub started_rows : (gs : List (ℕ × SmallVec ℕ 1 Global)) → AreStarted gs → list_all has_row (map idx_group gs) ≡ true
started_rows [] h = refl
started_rows (g ∷ gs) h = λ i. has_first g.1.items g.0 h.0.0 h.0.1 i && started_rows gs h.1 i
  where
    has_first : (rows : List ℕ) (first : ℕ) (rest : List ℕ) → rows ≡ first ∷ rest → nat_lt 0 (length rows) ≡ true
    has_first [] first rest e = cc
    has_first (r ∷ rs) first rest e = grind (arith, nat_tests)
