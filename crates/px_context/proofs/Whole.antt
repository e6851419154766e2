-- Groups each of which has all rows of a frame.
use Rattle.std.proofs.Common.{◌≡◌, ℕ, zero, suc, ◌+◌, ◌^◌, ◌<◌, true, ◌&&◌, Bool, List, [], ◌∷◌, Ok, Err, cond, length, map, nat_le, replicate, refl, ◌∙◌, ap, arith}
use Rattle.std.proofs.lemmas.Bool.Decides.{nat_tests}
use Rattle.std.proofs.lemmas.List.{length-map, length-replicate}
use Rattle.std.specs.List.{range_with_len}
use Rattle.px_value.specs.declared.error.PxError.TheVariants.{OutOfBounds}
use Rattle.px_frame.specs.Groups.{Group}
use Rattle.px_frame.specs.GroupsView.{all_end_within, slice_group}
use Rattle.px_context.specs.Changes.{all_rows}

le_self : (n : ℕ) → nat_le (0 + n) n ≡ true
le_self n = grind (arith, nat_tests)

each_ends : (n h : ℕ) → all_end_within h (replicate n (0 ∷ h ∷ [])) ≡ true
each_ends zero h = refl
each_ends (suc n) h = λ i. le_self h i && each_ends n h i

each_whole : (n h : ℕ) → map slice_group (replicate n (0 ∷ h ∷ [])) ≡ replicate n (record { first = 0; rows = range_with_len 0 h })
each_whole zero h = refl
each_whole (suc n) h = ap (λ (gs : List Group). record { first = 0; rows = range_with_len 0 h } ∷ gs) (each_whole n h)

module _ (n h : ℕ) (v : List (List ℕ)) (e : v ≡ replicate n (0 ∷ h ∷ [])) where
  -- so many slices of all rows are few
  pub whole_few : n < 2 ^ 32 → length (map slice_group v) < 2 ^ 32
  whole_few lt =
      let many : length v ≡ n = ap length e ∙ length-replicate n (0 ∷ h ∷ []) in
      omega (arith, length-map v slice_group, many, lt)

  -- and are the groups of all rows
  pub whole_made : cond (all_end_within h v) (Ok (record { height = h; groups = map slice_group v })) (Err OutOfBounds) ≡ Ok (all_rows n h)
  whole_made =
      ap (λ (b : Bool). cond b (Ok (record { height = h; groups = map slice_group v })) (Err OutOfBounds)) (ap (all_end_within h) e ∙ each_ends n h)
      ∙ ap (λ (gs : List Group). Ok (record { height = h; groups = gs })) (ap (map slice_group) e ∙ each_whole n h)
