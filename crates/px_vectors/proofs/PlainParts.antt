-- The parts of a frame are rows of it, and few.
use Rattle.std.proofs.Common.{◌≡◌, ℕ, zero, suc, ◌^◌, ◌<◌, true, List, [], ◌∷◌, length, map, nat_lt, sym, ap, subst, arith}
use Rattle.std.specs.List.{All, list_all}
use Rattle.std.proofs.lemmas.Bool.Decides.{nat_tests}
use Rattle.std.proofs.lemmas.List.{length-map}
use Rattle.std.proofs.lemmas.List.FromFn.{length-map-range_with_len}
use Rattle.px_column.specs.Equality.{row_eq}
use Rattle.px_column.specs.Key.{key_at, keys_of}
use Rattle.px_column.specs.Prelude.{Series}
use Rattle.px_frame.specs.Frame.{are_below}
use Rattle.px_frame.specs.Groups.{group_of, is_group, IsGroups}
use Rattle.px_frame.specs.Parts.{parts_of}
use Rattle.px_frame.proofs.PartLaws.{IsGroups-parts}
use Rattle.px_value.proofs.FitLaws.{both}
use Rattle.px_vectors.specs.PlainStep.{IsPart}

part_of_group : (n : ℕ) (p : List ℕ) → is_group n (group_of p) ≡ true → IsPart n p
part_of_group n p h =
    let b = both (are_below n p) (nat_lt (length p) (2 ^ 32)) h in
    let short : nat_lt (length p) (2 ^ 32) ≡ true = b.1 in
    record { below = b.0; few = grind (arith, nat_tests) }

groups_of_parts : (by : List Series) (n : ℕ) → n < 2 ^ 32 → IsGroups n (map group_of (parts_of by n))
groups_of_parts by n h =
    let e : length (keys_of by n) ≡ n = length-map-range_with_len (key_at by) 0 n in
    subst (λ (m : ℕ). IsGroups m (map group_of (parts_of by n))) e (IsGroups-parts row_eq (keys_of by n) (omega arith))

module _ {V : Type 0} (items : V → List ℕ) where
  all_parts : (n : ℕ) (ps : List V) → list_all (is_group n) (map group_of (map items ps)) ≡ true → All (λ p. IsPart n (items p)) ps
  all_parts n [] h k d lt = absurd (omega (arith, lt))
  all_parts n (p ∷ ps) h zero d lt = part_of_group n (items p) (both (is_group n (group_of (items p))) (list_all (is_group n) (map group_of (map items ps))) h).0
  all_parts n (p ∷ ps) h (suc k) d lt = all_parts n ps (both (is_group n (group_of (items p))) (list_all (is_group n) (map group_of (map items ps))) h).1 k d (omega (arith, lt))

  module _ (by : List Series) (n : ℕ) (h : n < 2 ^ 32) (ps : List V) (e : map items ps ≡ parts_of by n) where
    pub few_parts : length ps < 2 ^ 32
    few_parts =
        let few = (groups_of_parts by n h).few in
        omega (arith, few, length-map (parts_of by n) group_of, ap length e, length-map ps items)

    pub are_parts : All (λ p. IsPart n (items p)) ps
    are_parts = all_parts n ps (subst (λ (qs : List (List ℕ)). list_all (is_group n) (map group_of qs) ≡ true) (sym e) (groups_of_parts by n h).each)
