use Rattle.std.proofs.Common.{◌≡◌, drop}
use Rattle.px_typing.specs.Facts.{all_literals}
use Rattle.px_typing.specs.FactsView.{all_facts_of}
use Rattle.px_typing.proofs.typed.all_literals.Given as goal

abbrev pub invariant-loop-input : goal.invariant-loop-input
invariant-loop-input l = all_literals (all_facts_of l.inputs) ≡ all_literals (all_facts_of (drop l.input-index l.inputs))
