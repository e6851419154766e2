use Rattle.std.proofs.Common.{◌≡◌, drop}
use Rattle.px_typing.specs.Facts.{have_list}
use Rattle.px_typing.specs.FactsView.{all_facts_of}
use Rattle.px_typing.proofs.typed.have_list.Given as goal

abbrev pub invariant-loop-input : goal.invariant-loop-input
invariant-loop-input l = have_list (all_facts_of l.inputs) ≡ have_list (all_facts_of (drop l.input-index l.inputs))
