-- What stands under each key of a step.
use Rattle.std.proofs.Common.{◌≡◌, ◌≢◌, ◌≤◌, ◌<◌, ℕ, true, false, cond, List, [], ◌∷◌, Option, Some, None, option_map, length, codes, refl, sym, ◌∙◌, ap, arith, subst}
use Rattle.std.specs.Prelude.{Result, nat_le}
use Rattle.std.proofs.lemmas.Bool.Decides.{nat_tests}
use Rattle.serde_json.specs.Data.{Data}
use Rattle.px_column.specs.Option.{◌>>=◌, each}
use Rattle.px_tree.specs.Step.{PlainStep, select, filter, step_view}
use Rattle.px_tree.specs.declared.step.Step.{Step}
use Rattle.px_document.specs.ExprForm.{expr_of}
use Rattle.px_document.specs.Form.{ReadsBy, field, fields, items, only_member, single_member}
use Rattle.px_document.specs.StepForm.{group_parts, any_step_of, any_steps_of}
use Rattle.px_document.specs.declared.document.fault.DocumentFault.{DocumentFault}
use Rattle.px_document.proofs.Forms.{member_is, field_none, field_other, first_of_two, neither}

-- no step stands where no field of a form is there
steps_none : (d : Data) → field (codes "select") d ≡ None → field (codes "filter") d ≡ None → field (codes "group") d ≡ None → any_step_of d ≡ None
unfolding any_step_of
steps_none d select' filter' group' =
    neither (ap (λ o. option_map select (o >>= items >>= each expr_of)) select')
    (neither (ap (λ o. option_map filter (o >>= expr_of)) filter')
    (ap (λ o. o >>= fields (codes "keys" ∷ codes "aggs" ∷ codes "chunks" ∷ []) >>= group_parts) group'))

-- what stands under each key
pub under_select : (v : Data) → any_step_of (single_member (codes "select") v) ≡ option_map select (items v >>= each expr_of)
unfolding any_step_of
under_select v = first_of_two (option_map select (items v >>= each expr_of))

pub under_filter : (v : Data) → any_step_of (single_member (codes "filter") v) ≡ option_map filter (expr_of v)
unfolding any_step_of
under_filter v = first_of_two (option_map filter (expr_of v))

pub under_group : (v : Data) → any_step_of (single_member (codes "group") v) ≡ (fields (codes "keys" ∷ codes "aggs" ∷ codes "chunks" ∷ []) v >>= group_parts)
unfolding any_step_of
under_group v = refl

-- where there is no only member there is no step
pub no_step : (d : Data) → only_member d ≡ None → any_step_of d ≡ None
no_step d h = steps_none d (field_none (codes "select") d h) (field_none (codes "filter") d h) (field_none (codes "group") d h)

-- under another key there is no step
pub other_step : (k : List ℕ) (d v : Data) → only_member d ≡ Some (k, v) → k ≢ codes "select" → k ≢ codes "filter" → k ≢ codes "group" → any_step_of d ≡ None
other_step k d v m select' filter' group' =
    ap any_step_of (member_is d k v m)
    ∙ steps_none (single_member k v) (field_other (codes "select") k v select') (field_other (codes "filter") k v filter') (field_other (codes "group") k v group')

-- what is read of the value is what is read of the object with it under the key
pub step_keyed : (r : Result Step DocumentFault) (q k : List ℕ) (d v : Data) (o : Option PlainStep) → only_member d ≡ Some (k, v) → k ≡ q → any_step_of (single_member q v) ≡ o → ReadsBy step_view r o → ReadsBy step_view r (any_step_of d)
step_keyed r q k d v o m h u read =
    let same : any_step_of d ≡ o = ap any_step_of (member_is d k v m) ∙ ap (λ x. any_step_of (single_member x v)) h ∙ u in
    subst (ReadsBy step_view r) (sym same) read

-- there are at most 64 steps
pub few_steps : (ds : List Data) → length ds ≤ 64 → any_steps_of ds ≡ each any_step_of ds
few_steps ds h = let few : nat_le (length ds) 64 ≡ true = grind (arith, nat_tests) in ap (λ b. cond b (each any_step_of ds) None) few

pub many_steps : (ds : List Data) → 64 < length ds → any_steps_of ds ≡ None
many_steps ds h = let many : nat_le (length ds) 64 ≡ false = grind (arith, nat_tests) in ap (λ b. cond b (each any_step_of ds) None) many
