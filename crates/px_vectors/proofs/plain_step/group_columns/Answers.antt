use Rattle.std.proofs.Common.{◌≡◌, ◌<◌, ◌^◌, ◌∙◌, Vec, Global, ap, sym, subst, map, length, Some, List, ℕ, arith}
use Rattle.std.specs.List.{All}
use Rattle.px_frame.specs.Frame.{height_of}
use Rattle.px_frame.specs.Parts.{parts_of}
use Rattle.px_column.specs.Option.{each}
use Rattle.px_frame.specs.External.{alone}
use Rattle.px_tree.specs.Grouped.{aggregated_on, key_values}
use Rattle.px_vectors.specs.PlainStep.{IsPart, tree_of}
use Rattle.px_vectors.proofs.PlainAnswer.{columns_laid}
use Rattle.px_vectors.proofs.PlainParts.{few_parts, are_parts}
use Rattle.px_vectors.proofs.Told.{told}
use Rattle.px_vectors.proofs.plain_step.group_columns.Goals as goal

pub first_values-requires : goal.first_values-requires
first_values-requires c =
    let few : c.height.result < 2 ^ 32 = omega arith in
    subst (λ (ps : List (Vec ℕ Global)). length ps < 2 ^ 32) (sym c.deref.ensures.value) (few_parts (λ p. p.items) c.args.by.now c.height.result few c.in_ok-parts.parts.items (told _ _ c.in_ok-parts.ensures))

pub aggregate_columns-requires-clause-few : goal.aggregate_columns-requires-clause-few
aggregate_columns-requires-clause-few c =
    let few : c.height.result < 2 ^ 32 = omega arith in
    subst (λ (ps : List (Vec ℕ Global)). length ps < 2 ^ 32) (sym c.deref-2.ensures.value) (few_parts (λ p. p.items) c.args.by.now c.height.result few c.in_ok-parts.parts.items (told _ _ c.in_ok-parts.ensures))

pub aggregate_columns-requires-clause-parts : goal.aggregate_columns-requires-clause-parts
aggregate_columns-requires-clause-parts c =
    let few : c.height.result < 2 ^ 32 = omega arith in
    let all = are_parts (λ p. p.items) c.args.by.now c.height.result few c.in_ok-parts.parts.items (told _ _ c.in_ok-parts.ensures) in
    subst (λ (ps : List (Vec ℕ Global)). All (λ p. IsPart (height_of c.args.frame.now) p.items) ps) (sym c.deref-2.ensures.value)
    (subst (λ (n : ℕ). All (λ p. IsPart n p.items) c.in_ok-parts.parts.items) c.height.ensures all)

pub returns : goal.returns
returns c =
    let ps = map (λ p. p.items) c.in_ok-parts.parts.items in
    let parts : ps ≡ parts_of c.args.by.now (height_of c.args.frame.now) = told _ _ c.in_ok-parts.ensures ∙ ap (parts_of c.args.by.now) c.height.ensures in
    let keys : c.in_ok-columns.columns.items ≡ map (key_values ps) c.args.by.now =
    told _ _ c.in_ok-columns.ensures ∙ ap (λ (vs : List (Vec ℕ Global)). map (key_values (map (λ p. p.items) vs)) c.args.by.now) c.deref.ensures.value in
    let values : each (aggregated_on (alone c.args.frame.now) ps) (map tree_of c.args.aggs.now) ≡ Some c.in_ok-values.values.items =
    ap (λ (vs : List (Vec ℕ Global)). each (aggregated_on (alone c.args.frame.now) (map (λ p. p.items) vs)) (map tree_of c.args.aggs.now)) (sym c.deref-2.ensures.value) ∙ c.in_ok-values.ensures.1 in
    (c.in_ok-values.ensures.0, columns_laid c.args.frame.now c.args.by.now _ _ ps (map tree_of c.args.aggs.now) parts keys values ∙ ap Some (sym c.in_ok-append.ensures.items))
