use Rattle.std.proofs.Common.{◌≡◌, ◌∙◌, [], Ok, ap, false, length, replicate, sym}
use Rattle.px_column.specs.Prelude.{slot_at}
use Rattle.px_column.specs.Rows.{is_true}
use Rattle.px_frame.specs.Groups.{group_of}
use Rattle.px_group_nodes.proofs.Keeping.{unit_none}
use Rattle.px_group_nodes.proofs.filter.filter_by_unit.Goals as goal

pub returns : goal.returns
returns c =
    let s = slot_at c.args.mask.now.slots 0 in
    let kept = c.kept_groups.result.now in
    let none : is_true s ≡ false = cc (c.is_true.ensures, c.get.ensures.value, c.if-is_true.false) in
    let made : record { height = kept.height; groups = replicate (length kept.groups) (group_of []) } ≡ c.in_ok-groups.groups = cc c.in_ok-groups.ensures in
    ap Ok (unit_none s c.args.input kept c.in_ok-groups.groups none c.kept_groups.ensures made ∙ sym c.with_groups.ensures)
