use Rattle.std.proofs.Common.{◌≡◌, ◌∙◌, inr, Ok, ap, arith, false, length, subst, sym, true}
use Rattle.std.specs.List.{list_all}
use Rattle.px_column.specs.Prelude.{Answers, Series, slot_at}
use Rattle.px_column.specs.Repeat.{repeated}
use Rattle.px_frame.specs.Cell.{Cell, rows}
use Rattle.px_frame.specs.Groups.{Groups}
use Rattle.px_context.specs.Built.{with_flat}
use Rattle.px_context.specs.Context.{Context}
use Rattle.px_lanes.specs.Lane.{lane_of}
use Rattle.px_lanes.proofs.Lanes.{unit_one}
use Rattle.px_lanes.proofs.Stepping.{if_answered}
use Rattle.px_group_nodes.specs.Filter.{IsFiltered}
use Rattle.px_group_nodes.specs.Kept.{has_one_row, kept_flat}
use Rattle.px_group_nodes.proofs.Masking.{flat_mask}
use Rattle.px_group_nodes.proofs.Singling.{singles_filtered, singles_refused, spread_unit}
use Rattle.px_group_nodes.proofs.filter.filter_unit_by_rows.Goals as goal

pub returns-then-not-have_one_row-clause-refused : goal.returns-then-not-have_one_row-clause-refused
returns-then-not-have_one_row-clause-refused g c =
    let a = c.args.input.now in
    let by = c.args.by in
    let told : list_all has_one_row by.groups.groups ≡ c.have_one_row.result = ap (λ (q : Groups). list_all has_one_row q.groups) (sym c.kept_groups.ensures) ∙ sym c.have_one_row.ensures in
    let one : list_all has_one_row by.groups.groups ≡ false = cc (told, c.if-not-have_one_row.true) in
    inr (singles_refused a by c.has_lane.ensures.context c.has_lane-2.ensures.context c.requires.count c.requires.input c.requires.truths c.requires.mask one)

pub new_from_index-requires : goal.new_from_index-requires
new_from_index-requires g c =
    let one = unit_one c.args.input.now c.has_lane.ensures.context c.requires.input in
    omega (arith, one, ap (λ (s : Series). length s.slots) c.get_values-2.ensures)

pub returns-clause-made : goal.returns-clause-made
returns-clause-made g c =
    let a = c.args.input.now in
    let by = c.args.by in
    let told : list_all has_one_row by.groups.groups ≡ c.have_one_row.result = ap (λ (q : Groups). list_all has_one_row q.groups) (sym c.kept_groups.ensures) ∙ sym c.have_one_row.ensures in
    let one : list_all has_one_row by.groups.groups ≡ true = cc (told, c.if-not-have_one_row.false) in
    let copied : c.in_ok-mask.mask ≡ by.values = cc (c.in_ok-mask.ensures, c.get_values.ensures) in
    let mask : rows c.in_ok-mask.mask.slots ≡ (lane_of by).cell = ap (λ (s : Series). rows s.slots) copied ∙ sym (flat_mask by (c.has_lane-2.ensures.context.mark c.requires.mask)) in
    let s = c.get_values-2.result.now in
    let column : repeated s.name s.kind (slot_at s.slots 0) c.height-height.result ≡ c.in_ok-column.column = cc c.in_ok-column.ensures in
    let height : c.height-height.result ≡ by.groups.height = c.height-height.ensures ∙ ap (λ (q : Groups). q.height) c.kept_groups-2.ensures in
    let values = c.get_values-2.ensures in
    let same : c.in_ok-column.column ≡ repeated a.values.name a.values.kind (slot_at a.values.slots 0) by.groups.height =
    sym column ∙ (λ i. repeated (values i).name (values i).kind (slot_at (values i).slots 0) (height i)) in
    let spread : c.with_values.new.self ≡ spread_unit a by = c.with_values.ensures ∙ ap (with_flat by) same in
    let answer : Answers c.filter_rows.result (Ok (kept_flat (lane_of by).cell (spread_unit a by))) =
    subst (λ (q : Cell × Context). Answers c.filter_rows.result (Ok (kept_flat q.0 q.1))) (λ i. (mask i, spread i)) c.filter_rows.ensures.answer in
    if_answered c.filter_rows.result (kept_flat (lane_of by).cell (spread_unit a by)) (IsFiltered a by) answer
    (singles_filtered a by c.has_lane.ensures.context c.has_lane-2.ensures.context c.requires.count c.requires.input c.requires.truths c.requires.mask one c.has_lane-2.ensures.groups)
