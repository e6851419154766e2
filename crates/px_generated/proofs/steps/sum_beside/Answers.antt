use Rattle.std.proofs.Common.{◌≡◌, [], ◌∷◌, Ok, map, sym, ap, ◌∙◌}
use Rattle.px_generated.specs.Generated.{k, x}
use Rattle.px_tree.specs.Tree.{Tree, agg, no_order, trees_of, window}
use Rattle.px_tree.specs.View.{tree}
use Rattle.px_tree.specs.declared.window.WindowMapping.TheVariants.{GroupsToRows}
use Rattle.px_value.specs.declared.method.GroupByMethod.TheVariants.{Sum}
use Rattle.px_generated.proofs.steps.sum_beside.Goals as goal

pub returns : goal.returns
returns c =
    let sum : tree c.in_ok-shared.field-0.value ≡ x = cc (c.in_ok-shared.ensures) in
    let key : tree c.in_ok-column.field-0 ≡ k = cc (c.in_ok-column.ensures) in
    let function = ap tree c.in_ok-function.ensures.ok ∙ c.sum.ensures ∙ ap (λ (t : Tree). agg Sum t) sum in
    let keys = ap (λ v. map tree v.items) c.in_ok-keys.ensures.ok ∙ ap (map tree) c.in_ok-vec.ensures.items ∙ ap (λ (t : Tree). t ∷ []) key in
    ap Ok (sym (c.over.ensures ∙ (λ i. window (function i) (trees_of (keys i)) no_order GroupsToRows)))
