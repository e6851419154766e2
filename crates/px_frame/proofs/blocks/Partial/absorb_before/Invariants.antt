use Rattle.std.proofs.Common.{◌≡◌}
use Rattle.px_frame.specs.Partial.{IsPartial}
use Rattle.px_frame.specs.GroupsView.{lent_group}
use Rattle.px_frame.proofs.blocks.Partial.absorb_before.Given as goal

abbrev pub invariant-loop-index : goal.invariant-loop-index
invariant-loop-index g l = record {
  partial : IsPartial g.R.Reduce.stands_for l.values (lent_group l.group) l.self;
  taken : l.self.taken ≡ l.index;
}
