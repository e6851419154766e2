use Rattle.std.proofs.Common.{◌≡◌, ◌∙◌, ◌++◌, [], List, ℕ, Some, ap, map, subst, sym}
use Rattle.std.proofs.lemmas.Result.{err_from_is_err_and}
use Rattle.px_value.specs.declared.error.PxError.{PxError}
use Rattle.px_tree.specs.Shape.{name_of}
use Rattle.px_tree.specs.View.{tree}
use Rattle.px_steps.specs.Finds.{repeat_beside}
use Rattle.px_steps.specs.Meets.{IsFirst, Meets}
use Rattle.px_steps.proofs.GroupStep.{repeat_both, repeat_keys}
use Rattle.px_steps.proofs.group_step.distinct_names.Goals as goal

pub returns-in_err-add_names : goal.returns-in_err-add_names
returns-in_err-add_names c =
    let p = err_from_is_err_and c.from_residual.result c.from_residual.ensures.1 in
    let e = c.in_err-add_names.field-0.0 in
    let ks = map tree c.args.keys.now in
    let none : c.new-names.result.keys ≡ [] = cc (c.new-names.ensures.empty) in
    rw (p.1, p.2) (repeat_keys e ks (map tree c.args.aggs.now) (subst (λ (ns : List (List ℕ)). IsFirst e (repeat_beside ns ks)) none c.in_err-add_names.ensures.answer))

pub returns : goal.returns
returns c =
    let ks = map tree c.args.keys.now in
    let ts = map tree c.args.aggs.now in
    let none : c.new-names.result.keys ≡ [] = cc (c.new-names.ensures.empty) in
    let once : repeat_beside [] ks ≡ [] = ap (λ (ns : List (List ℕ)). repeat_beside ns ks) (sym none) ∙ c.in_ok-add_names.ensures.answer.0 in
    let names : c.add_names.new.names.keys ≡ map name_of ks = c.in_ok-add_names.ensures.added ∙ ap (λ (ns : List (List ℕ)). ns ++ map name_of ks) none in
    let same = ap (λ (ns : List (List ℕ)). repeat_beside ns ts) names ∙ sym (repeat_both ks ts once) in
    subst (λ (es : List PxError). Meets c.add_names-2.result es (Some tt)) same c.add_names-2.ensures.answer
