use Rattle.std.proofs.Common.{arith}
use Rattle.px_lowering.proofs.Views.{all_below_at}
use Rattle.px_lowering.proofs.scalar.+is_scalar.Goals as goal

pub are_scalars-is_scalar_ae-requires : goal.are_scalars-is_scalar_ae-requires
are_scalars-is_scalar_ae-requires t c =
    let lt = all_below_at c.args.before c.args.nodes.now c.loop-node.node-index (record { 0 = 0 }) c.requires.below c.loop-node-test.true in
    (omega (arith, c.decreases), omega arith)
