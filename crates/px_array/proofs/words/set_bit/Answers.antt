use Rattle.px_array.proofs.Bits.{bit_set_here, bit_set_others}
use Rattle.px_array.proofs.words.set_bit.Goals as goal

pub returns-clause-here : goal.returns-clause-here
returns-clause-here c = bit_set_here c.args.words.now c.args.i c.requires

pub returns-clause-others : goal.returns-clause-others
returns-clause-others c = λ k n. bit_set_others c.args.words.now c.args.i k c.requires n
