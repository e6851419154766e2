use Rattle.std.proofs.Common.{◌≡◌, drop}
use Rattle.px_typing.specs.Facts.{any_implode}
use Rattle.px_typing.specs.FactsView.{all_facts_of}
use Rattle.px_typing.proofs.typed.any_implode.Given as goal

abbrev pub invariant-loop-input : goal.invariant-loop-input
invariant-loop-input l = any_implode (all_facts_of l.inputs) ≡ any_implode (all_facts_of (drop l.input-index l.inputs))
