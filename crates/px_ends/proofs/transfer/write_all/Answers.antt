use Rattle.std.proofs.Common.{◌∙◌, inl, arith}
use Rattle.px_ends.proofs.Taking.{Takes-more}
use Rattle.px_ends.proofs.transfer.write_all.Goals as goal

pub loop-at-preserved : goal.loop-at-preserved
loop-at-preserved g c = record {
  within = grind arith;
  takes = Takes-more c.loop-at.at c.in_ok-count.count c.args.text.now _ _ _ c.loop-at.invariant.takes c.in_ok-count.ensures.takes;
  steady = c.in_ok-count.ensures.steady (inl (omega arith)) ∙ c.loop-at.invariant.steady;
}
