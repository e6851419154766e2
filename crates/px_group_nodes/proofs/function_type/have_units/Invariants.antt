use Rattle.std.proofs.Common.{◌≡◌, drop}
use Rattle.std.specs.List.{list_all}
use Rattle.px_context.specs.Context.{has_units}
use Rattle.px_group_nodes.proofs.function_type.have_units.Given as goal

abbrev pub invariant-loop-input : goal.invariant-loop-input
invariant-loop-input l = list_all (λ c. has_units c.layout) l.inputs ≡ list_all (λ c. has_units c.layout) (drop l.input-index l.inputs)
