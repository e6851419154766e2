use Rattle.std.proofs.Common.{◌≡◌, drop, not}
use Rattle.std.specs.List.{list_any}
use Rattle.px_column.specs.Prelude.{kind_eq, kind_of}
use Rattle.px_typing.specs.Facts.{kinds_of}
use Rattle.px_typing.specs.FactsView.{all_facts_of}
use Rattle.px_typing.proofs.functions.have_type.Given as goal

abbrev pub invariant-loop-input : goal.invariant-loop-input
invariant-loop-input l =
    list_any (λ k. not (kind_eq (kind_of l.dtype) k)) (kinds_of (all_facts_of l.inputs))
    ≡ list_any (λ k. not (kind_eq (kind_of l.dtype) k)) (kinds_of (all_facts_of (drop l.input-index l.inputs)))
