-- Groups that were built row by row are those of the definition.
use Rattle.std.proofs.Common.{◌≡◌, ℕ, ◌^◌, ◌<◌, ◌+◌, List, [], ◌∷◌, ◌++◌, length, map, sym, ◌∙◌, ap, subst, arith}
use Rattle.std.specs.Cmp.{IsEquivalence}
use Rattle.std.specs.List.{IsDistinct}
use Rattle.std.proofs.lemmas.List.FromFn.{length-map-range_with_len}
use Rattle.std.specs.declared.alloc.Global.{Global}
use Rattle.smallvec.specs.declared.SmallVec.{SmallVec}
use Rattle.px_column.specs.Prelude.{Slot, Series}
use Rattle.px_value.specs.Decided.{IsEquivalence-decides, row_decides}
use Rattle.px_column.specs.Equality.{row_eq}
use Rattle.px_column.specs.Key.{key_at, keys_of}
use Rattle.px_frame.specs.Enter.{entered, AreStarted}
use Rattle.px_frame.specs.Groups.{IsGroups, group_of}
use Rattle.px_frame.specs.GroupsView.{idx_group}
use Rattle.px_frame.specs.Parts.{with_key, distinct, rows_of_keys, parts_of}
use Rattle.px_frame.proofs.PartLaws.{IsGroups-parts}
use Rattle.px_frame.proofs.Entering.{enter_made}
use Rattle.px_column.proofs.KeyLaws.{keys_push}
use Rattle.px_frame.proofs.Started.{groups_of_rows}

laws : IsEquivalence row_eq
laws = IsEquivalence-decides row_decides

length_keys : (by : List Series) (n : ℕ) → length (keys_of by n) ≡ n
length_keys by n = length-map-range_with_len (key_at by) 0 n

pub groups_step : (by : List Series) (n : ℕ) (firsts news : List (List Slot)) (ps qs : List (List ℕ)) (k : List Slot) → k ≡ key_at by n → IsDistinct row_eq firsts → firsts ≡ distinct row_eq (keys_of by n)
    → ps ≡ rows_of_keys row_eq firsts (keys_of by n) → news ≡ with_key row_eq firsts k → qs ≡ entered row_eq firsts ps k n → qs ≡ rows_of_keys row_eq news (keys_of by (n + 1))
groups_step by n firsts news ps qs k e d f p h q =
    enter_made row_eq laws firsts news ps qs (keys_of by n) k n d f p (sym (length_keys by n)) q h
    ∙ ap (λ (x : List Slot). rows_of_keys row_eq news (keys_of by n ++ x ∷ [])) e ∙ ap (rows_of_keys row_eq news) (sym (keys_push by n))

-- at the end
pub groups_made : (by : List Series) (n : ℕ) (firsts : List (List Slot)) (gs : List (ℕ × SmallVec ℕ 1 Global)) → AreStarted gs → firsts ≡ distinct row_eq (keys_of by n)
    → map (λ g. g.1.items) gs ≡ rows_of_keys row_eq firsts (keys_of by n) → map idx_group gs ≡ map group_of (parts_of by n)
groups_made by n firsts gs s f p = groups_of_rows gs s ∙ ap (map group_of) (p ∙ ap (λ (fs : List (List Slot)). rows_of_keys row_eq fs (keys_of by n)) f)

pub IsGroups-made : (by : List Series) (n : ℕ) (gs : List (ℕ × SmallVec ℕ 1 Global)) → n < 2 ^ 32 → map idx_group gs ≡ map group_of (parts_of by n) → IsGroups n (map idx_group gs)
IsGroups-made by n gs h e =
    let few : length (keys_of by n) < 2 ^ 32 = omega (arith, length_keys by n, h) in
    subst (IsGroups n) (sym e) (subst (λ (m : ℕ). IsGroups m (map group_of (parts_of by n))) (length_keys by n) (IsGroups-parts row_eq (keys_of by n) few))
