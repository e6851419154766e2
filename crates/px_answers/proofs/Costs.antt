-- The costs of some expressions together, as far as a loop over them has come.
use Rattle.std.proofs.Common.{◌≡◌, ℕ, ◌+◌, ◌<◌, ◌≤◌, List, [], ◌∷◌, Option, Some, None, drop, get_or, length, map, option_and_then, option_map, sum, sym, ◌∙◌, ap, subst, arith}
use Rattle.std.proofs.lemmas.List.{at_drop_all, at_drop_more}
use Rattle.std.proofs.lemmas.List.Sums.{sum_by-cons}
use Rattle.px_column.specs.Option.{each}
use Rattle.px_frame.specs.External.{Frame}
use Rattle.px_tree.specs.Cost.{cost_on}
use Rattle.px_tree.specs.Tree.{Tree}
use Rattle.px_answers.specs.Counted.{RisesAtMost, costs_on}

-- no expression runs no kernel
costs_none : (F : Frame) (n : ℕ) → RisesAtMost (costs_on [] F) n n
costs_none F n = omega arith

-- one more expression's cost
costs_more : (e : Tree) (es : List Tree) (F : Frame) (old mid new : ℕ) → RisesAtMost (cost_on e F) old mid → RisesAtMost (costs_on es F) mid new → RisesAtMost (costs_on (e ∷ es) F) old new
costs_more e es F old mid new a b = by (cost_on e F) (each (λ x. cost_on x F) es) a b
  where
    by : (o : Option ℕ) (os : Option (List ℕ)) → RisesAtMost o old mid → RisesAtMost (option_map sum os) mid new → RisesAtMost (option_map sum (option_and_then (λ n. option_map (λ ns. n ∷ ns) os) o)) old new
    by None os a b = tt
    by (Some n) None a b = tt
    by (Some n) (Some ns) a b =
        let first : sum (n ∷ ns) ≡ n + sum ns = sum_by-cons (λ m. m) n ns in
        omega (arith, a, b, first)

-- the bound of a loop over things that have expressions, as far as it has come
pub cost_next : {X : Type 0} (v : X → Tree) (xs : List X) (i : ℕ) (x : X) → i < length xs → x ≡ get_or xs i x → (F : Frame) (whole : ℕ → Type 0) (old mid : ℕ)
    → ((new : ℕ) → RisesAtMost (costs_on (map v (drop i xs)) F) old new → whole new) → RisesAtMost (cost_on (v x) F) old mid → (new : ℕ) → RisesAtMost (costs_on (map v (drop (i + 1) xs)) F) mid new → whole new
cost_next {X} v xs i x below is F whole old mid h one new rest =
    h new (subst (λ o. RisesAtMost o old new) (sym at) (costs_more (v x) (map v (drop (i + 1) xs)) F old mid new one rest))
  where
    at : costs_on (map v (drop i xs)) F ≡ costs_on (v x ∷ map v (drop (i + 1) xs)) F
    at = at_drop_more (λ es. costs_on (map v es) F) xs i x below ∙ ap (λ e. costs_on (v e ∷ map v (drop (i + 1) xs)) F) (sym is)

-- no kernel ran
pub rises_none : (o : Option ℕ) (n : ℕ) → RisesAtMost o n n
rises_none None n = tt
rises_none (Some m) n = omega arith

-- the same where nothing ran after it
pub cost_here : {X : Type 0} (v : X → Tree) (xs : List X) (i : ℕ) (x : X) → i < length xs → x ≡ get_or xs i x → (F : Frame) (whole : ℕ → Type 0) (old mid : ℕ)
    → ((new : ℕ) → RisesAtMost (costs_on (map v (drop i xs)) F) old new → whole new) → RisesAtMost (cost_on (v x) F) old mid → whole mid
cost_here v xs i x below is F whole old mid h one = cost_next v xs i x below is F whole old mid h one mid (rises_none (costs_on (map v (drop (i + 1) xs)) F) mid)

-- and at its end
pub cost_end : {X : Type 0} (v : X → Tree) (xs : List X) (i : ℕ) → length xs ≤ i → (F : Frame) (whole : ℕ → Type 0) (now : ℕ) → ((new : ℕ) → RisesAtMost (costs_on (map v (drop i xs)) F) now new → whole new) → whole now
cost_end v xs i end F whole now h = h now (subst (λ o. RisesAtMost o now now) (sym (at_drop_all (λ es. costs_on (map v es) F) xs i end)) (costs_none F now))
