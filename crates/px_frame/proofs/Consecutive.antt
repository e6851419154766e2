-- Slices one after another.
use Rattle.std.proofs.Common.{◌≡◌, ℕ, suc, ◌+◌, ◌^◌, ◌<◌, ◌≤◌, Bool, true, false, ◌&&◌, List, [], ◌∷◌, ◌++◌, Ok, Err, cond, drop, drop-cons, add-one, fold, get_or, length, nat_lt, refl, sym, ◌∙◌, ap, subst, arith, sum}
use Rattle.std.specs.List.{list_all}
use Rattle.std.proofs.lemmas.Bool.Decides.{nat_tests}
use Rattle.std.proofs.lemmas.List.{append-nil, drop_all}
use Rattle.px_value.specs.declared.error.PxError.TheVariants.{ComputeError}
use Rattle.px_value.specs.declared.error.ComputeWhy.TheVariants.{TooLong}
use Rattle.px_frame.specs.Consecutive.{consecutive, slices_from}
use Rattle.px_frame.specs.Groups.{Group, is_group, IsGroups}
use Rattle.px_frame.proofs.Slices.{is_group-slice}

-- a sum is at least what it starts from
sum_ge : (a : ℕ) (cs : List ℕ) → a ≤ fold (λ b x. b + x) a cs
sum_ge a [] = omega arith
sum_ge a (c ∷ cs) = omega (arith, sum_ge (a + c) cs)

-- slices up to h are groups of rows below h
slices_each : (h n : ℕ) (cs : List ℕ) → h < 2 ^ 32 → fold (λ b x. b + x) n cs ≤ h → list_all (is_group h) (slices_from n cs) ≡ true
slices_each h n [] few le = refl
slices_each h n (c ∷ cs) few le =
    let ge = sum_ge (n + c) cs in
    λ i. is_group-slice h n c few (omega (arith, ge, le)) i && slices_each h (n + c) cs few le i

length-slices_from : (n : ℕ) (cs : List ℕ) → length (slices_from n cs) ≡ length cs
length-slices_from n [] = refl
length-slices_from n (c ∷ cs) = ap suc (length-slices_from (n + c) cs)

-- slices of a height that is not too long are groups
IsGroups-slices : (h : ℕ) (cs : List ℕ) → h < 2 ^ 32 → sum cs ≡ h → length cs < 2 ^ 32 → IsGroups h (slices_from 0 cs)
IsGroups-slices h cs few e n = record {
  each = slices_each h 0 cs few (omega (arith, e));
  few = omega (arith, length-slices_from 0 cs, n);
}

-- the sum from a place on
sum_drop : (cs : List ℕ) (n i : ℕ) → i < length cs → fold (λ b x. b + x) n (drop i cs) ≡ fold (λ b x. b + x) (n + get_or cs i 0) (drop (i + 1) cs)
sum_drop cs n i h = ap (fold (λ b x. b + x) n) (drop-cons cs i 0 h ∙ ap (λ m. get_or cs i 0 ∷ drop m cs) (sym (add-one i)))

-- lengths that reach 2^32 before a place make no slices
pub too_long : (cs : List ℕ) (n i : ℕ) → i < length cs → sum cs ≡ fold (λ b x. b + x) n (drop i cs) → 2 ^ 32 ≤ n + get_or cs i 0 → consecutive cs ≡ Err (ComputeError TooLong)
too_long cs n i h e le =
    let ge = sum_ge (n + get_or cs i 0) (drop (i + 1) cs) in
    let large : nat_lt (sum cs) (2 ^ 32) ≡ false = let all : 2 ^ 32 ≤ sum cs = omega (arith, e, sum_drop cs n i h, ge, le) in grind (arith, nat_tests) in
    ap (λ (b : Bool). cond b (Ok (record { height = sum cs; groups = slices_from 0 cs })) (Err (ComputeError TooLong))) large

-- the slices of all lengths
module _ (cs : List ℕ) (n i : ℕ) (made : List Group) (few : n < 2 ^ 32) (all : length cs ≤ i) (s : sum cs ≡ fold (λ b x. b + x) n (drop i cs)) (e : slices_from 0 cs ≡ made ++ slices_from n (drop i cs)) where
  no_more : drop i cs ≡ []
  no_more = drop_all i cs all

  whole_sum : sum cs ≡ n
  whole_sum = s ∙ ap (fold (λ b x. b + x) n) no_more

  whole_made : slices_from 0 cs ≡ made
  whole_made = e ∙ ap (λ ds. made ++ slices_from n ds) no_more ∙ append-nil made

  pub slices_made : length cs < 2 ^ 32 → IsGroups n made
  slices_made h = subst (IsGroups n) whole_made (IsGroups-slices n cs few whole_sum h)

  pub consecutive_made : consecutive cs ≡ Ok (record { height = n; groups = made })
  consecutive_made =
      let small : nat_lt (sum cs) (2 ^ 32) ≡ true = let lt : sum cs < 2 ^ 32 = omega (arith, whole_sum, few) in grind (arith, nat_tests) in
      ap (λ (b : Bool). cond b (Ok (record { height = sum cs; groups = slices_from 0 cs })) (Err (ComputeError TooLong))) small
      ∙ (λ j. Ok (record { height = whole_sum j; groups = whole_made j }))
