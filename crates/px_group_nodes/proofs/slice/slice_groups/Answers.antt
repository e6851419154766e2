use Rattle.std.proofs.Common.{◌∙◌, ◌==◌, ◌&&◌, [], ◌∷◌, arith, length, not, sym}
use Rattle.std.proofs.lemmas.Bool.Decides.{nat_tests}
use Rattle.px_value.proofs.FitLaws.{both}
use Rattle.px_context.specs.Built.{is_flat, is_unit_literal}
use Rattle.px_group_nodes.proofs.Made.{touched_keeps}
use Rattle.px_group_nodes.proofs.slice.slice_groups.Goals as goal

pub slice_flat-requires-clause-flat : goal.slice_flat-requires-clause-flat
slice_flat-requires-clause-flat g c =
    (both (is_flat c.args.input.layout) (is_unit_literal c.args.offset.layout && (is_unit_literal c.args.limit.layout && not (length c.args.input.groups.groups == 0))) (sym c.is_regrouped.ensures ∙ c.if-is_regrouped.true)).0

pub slice_flat-requires-clause-offset : goal.slice_flat-requires-clause-offset
slice_flat-requires-clause-offset g c =
    let others = (both (is_flat c.args.input.layout) (is_unit_literal c.args.offset.layout && (is_unit_literal c.args.limit.layout && not (length c.args.input.groups.groups == 0))) (sym c.is_regrouped.ensures ∙ c.if-is_regrouped.true)).1 in
    (both (is_unit_literal c.args.offset.layout) (is_unit_literal c.args.limit.layout && not (length c.args.input.groups.groups == 0)) others).0

pub slice_flat-requires-clause-limit : goal.slice_flat-requires-clause-limit
slice_flat-requires-clause-limit g c =
    let others = (both (is_flat c.args.input.layout) (is_unit_literal c.args.offset.layout && (is_unit_literal c.args.limit.layout && not (length c.args.input.groups.groups == 0))) (sym c.is_regrouped.ensures ∙ c.if-is_regrouped.true)).1 in
    let last = (both (is_unit_literal c.args.offset.layout) (is_unit_literal c.args.limit.layout && not (length c.args.input.groups.groups == 0)) others).1 in
    (both (is_unit_literal c.args.limit.layout) (not (length c.args.input.groups.groups == 0)) last).0

pub slice_flat-requires-clause-some : goal.slice_flat-requires-clause-some
slice_flat-requires-clause-some g c =
    let others = (both (is_flat c.args.input.layout) (is_unit_literal c.args.offset.layout && (is_unit_literal c.args.limit.layout && not (length c.args.input.groups.groups == 0))) (sym c.is_regrouped.ensures ∙ c.if-is_regrouped.true)).1 in
    let last = (both (is_unit_literal c.args.offset.layout) (is_unit_literal c.args.limit.layout && not (length c.args.input.groups.groups == 0)) others).1 in
    grind (arith, nat_tests, (both (is_unit_literal c.args.limit.layout) (not (length c.args.input.groups.groups == 0)) last).1)

pub returns-clause-groups : goal.returns-clause-groups
returns-clause-groups g c = touched_keeps c.slice_each.result (c.args.input ∷ c.args.offset ∷ c.args.limit ∷ []) c.slice_each.ensures.touched
