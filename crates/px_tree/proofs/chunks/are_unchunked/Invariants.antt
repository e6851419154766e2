use Rattle.std.proofs.Common.{◌≡◌, drop, map}
use Rattle.std.specs.List.{list_all}
use Rattle.px_tree.specs.Chunks.{is_unchunked}
use Rattle.px_tree.specs.Step.{step_view}
use Rattle.px_tree.proofs.chunks.are_unchunked.Given as goal

abbrev pub invariant-loop-step : goal.invariant-loop-step
invariant-loop-step l = list_all is_unchunked (map step_view l.steps) ≡ list_all is_unchunked (map step_view (drop l.step-index l.steps))
