use Rattle.std.proofs.Common.{◌≡◌, ◌∙◌, Some, ap, slice_get, sym, subst}
use Rattle.px_column.specs.Prelude.{Series, slot_at}
use Rattle.px_frame.specs.Cell.{rows, unit}
use Rattle.px_frame.specs.Frame.{slots_at}
use Rattle.px_frame.specs.Groups.{Group, Groups}
use Rattle.px_frame.specs.GroupsView.{lent_group}
use Rattle.px_context.specs.Context.{is_list_slot, item_kind, items_at}
use Rattle.px_context.specs.Part.{Part, part}
use Rattle.px_context.specs.declared.agg_state.Layout.TheVariants.{Lists, Scalars, Flat, Rows, Unit as Single}
use Rattle.px_context.proofs.Picking.{group_got, list_there, part_got}
use Rattle.px_context.proofs.context.AggregationContext.piece.Goals as goal

pub values_at-requires-clause-list : goal.values_at-requires-clause-list
values_at-requires-clause-list c =
    let was = c.args.self.now in
    ap (λ (s : Series). is_list_slot (slot_at s.slots c.args.group)) c.get_values-column.ensures
    ∙ list_there was c.args.group c.layout.ensures.context (sym c.layout.ensures.layout ∙ c.in-Lists.is) c.requires

pub returns-in-Lists : goal.returns-in-Lists
returns-in-Lists c =
    let was = c.args.self.now in
    let got = part_got was Lists c.args.group c.layout.ensures.context (sym c.layout.ensures.layout ∙ c.in-Lists.is) c.requires in
    let here : c.of_items.result ≡ part (item_kind was.values.kind) (rows (items_at (slot_at was.values.slots c.args.group))) =
    cc (c.of_items.ensures, c.items_type.ensures, c.dtype.ensures, c.get_values-column.ensures, c.values_at.ensures.values) in
    got ∙ ap (λ (p : Part). Some p) (sym here)

pub returns-in-Scalars : goal.returns-in-Scalars
returns-in-Scalars c =
    let was = c.args.self.now in
    let got = part_got was Scalars c.args.group c.layout.ensures.context (sym c.layout.ensures.layout ∙ c.in-Scalars.is) c.requires in
    let here : c.of_row.result ≡ part was.values.kind (unit (slot_at was.values.slots c.args.group)) = cc (c.of_row.ensures, c.get_values-column.ensures) in
    got ∙ ap (λ (p : Part). Some p) (sym here)

pub returns-in-Flat : goal.returns-in-Flat
returns-in-Flat c =
    let was = c.args.self.now in
    let got = part_got was Flat c.args.group c.layout.ensures.context (sym c.layout.ensures.layout ∙ c.in-Flat.is) c.requires in
    let found = subst (λ (g : Groups). slice_get g.groups c.args.group ≡ Some (lent_group c.group.result)) c.kept_groups.ensures c.group.ensures.group in
    let same = group_got was.groups.groups c.args.group (lent_group c.group.result) found c.requires in
    let here : c.of_rows.result ≡ part was.values.kind (rows (slots_at was.values.slots (lent_group c.group.result).rows)) = cc (c.of_rows.ensures, c.get_values-column.ensures) in
    got ∙ ap (λ (p : Group). Some (part was.values.kind (rows (slots_at was.values.slots p.rows)))) same ∙ ap (λ (p : Part). Some p) (sym here)

pub returns-in-Rows : goal.returns-in-Rows
returns-in-Rows c =
    let was = c.args.self.now in
    let got = part_got was Rows c.args.group c.layout.ensures.context (sym c.layout.ensures.layout ∙ c.in-Rows.is) c.requires in
    let here : c.of_column.result ≡ part was.values.kind (rows was.values.slots) = cc (c.of_column.ensures, c.get_values-column.ensures) in
    got ∙ ap (λ (p : Part). Some p) (sym here)

pub returns-in-Unit : goal.returns-in-Unit
returns-in-Unit c =
    let was = c.args.self.now in
    let got = part_got was Single c.args.group c.layout.ensures.context (sym c.layout.ensures.layout ∙ c.in-Unit.is) c.requires in
    let here : c.of_row-in-Unit.result ≡ part was.values.kind (unit (slot_at was.values.slots 0)) = cc (c.of_row-in-Unit.ensures, c.get_values-column.ensures) in
    got ∙ ap (λ (p : Part). Some p) (sym here)
