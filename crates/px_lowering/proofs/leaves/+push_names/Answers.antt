use Rattle.std.proofs.Common.{arith}
use Rattle.px_lowering.proofs.Views.{all_below_at}
use Rattle.px_lowering.proofs.leaves.+push_names.Goals as goal

pub push_all_names-push_names-requires : goal.push_all_names-push_names-requires
push_all_names-push_names-requires t c =
    let lt = all_below_at c.args.before c.args.nodes.now c.loop-node.node-index (record { 0 = 0 }) c.requires.below c.loop-node-test.true in
    (omega (arith, c.decreases), omega arith)
