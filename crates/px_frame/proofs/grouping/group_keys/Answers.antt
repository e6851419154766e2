use Rattle.std.proofs.Common.{◌≡◌, ap, sym, arith, map, Ok, ◌∙◌, ℕ, ◌^◌, ◌<◌}
use Rattle.px_frame.specs.Groups.{group_of, groups_by}
use Rattle.px_frame.specs.Parts.{parts_of}
use Rattle.px_frame.proofs.PartLaws.{keys_step}
use Rattle.px_frame.proofs.Built.{groups_step, groups_made, IsGroups-made}
use Rattle.px_frame.proofs.Started.{started_rows}
use Rattle.px_frame.proofs.grouping.group_keys.Goals as goal

pub loop-row-preserved : goal.loop-row-preserved
loop-row-preserved c =
    let inv = c.loop-row.invariant in
    record {
      keys = keys_step c.args.by.now c.loop-row.row _ _ _ c.new.ensures inv.keys c.in_ok-enter.ensures.keys;
      unique = c.in_ok-enter.ensures.distinct;
      as_long = c.in_ok-enter.ensures.len;
      groups = groups_step c.args.by.now c.loop-row.row _ _ _ _ _ c.new.ensures inv.unique inv.keys inv.groups c.in_ok-enter.ensures.keys c.in_ok-enter.ensures.groups;
      started = c.in_ok-enter.ensures.started inv.started;
    }

pub from_rows-requires : goal.from_rows-requires
from_rows-requires c =
    let inv = c.loop-row.invariant in
    let all : c.loop-row.row ≡ c.args.height = omega arith in
    let few : c.args.height < 2 ^ 32 = omega arith in
    let made = groups_made c.args.by.now c.loop-row.row _ c.loop-row.groups.items inv.started inv.keys inv.groups in
    IsGroups-made c.args.by.now c.args.height c.loop-row.groups.items few (made ∙ ap (λ (n : ℕ). map group_of (parts_of c.args.by.now n)) all)

pub returns-clause-groups : goal.returns-clause-groups
returns-clause-groups c =
    let inv = c.loop-row.invariant in
    let all : c.loop-row.row ≡ c.args.height = omega arith in
    let made = groups_made c.args.by.now c.loop-row.row _ c.loop-row.groups.items inv.started inv.keys inv.groups in
    let same : c.from_rows.result ≡ groups_by c.args.by.now c.args.height =
    c.from_rows.ensures ∙ (λ i. record { height = c.args.height; groups = (made ∙ ap (λ (n : ℕ). map group_of (parts_of c.args.by.now n)) all) i }) in
    ap Ok (sym same)

pub returns-clause-rows : goal.returns-clause-rows
returns-clause-rows c = rw c.from_rows.ensures (started_rows c.loop-row.groups.items c.loop-row.invariant.started)
