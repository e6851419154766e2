use Rattle.std.proofs.Common.{◌≡◌, drop, fold}
use Rattle.std.specs.List.{flat_map}
use Rattle.px_frame.specs.External.{scope_of, with_field}
use Rattle.px_window.specs.State.{beside}
use Rattle.px_scope.proofs.scope.scope_beside.Given as goal

abbrev pub invariant-loop-external : goal.invariant-loop-external
invariant-loop-external l = fold with_field l.schema (flat_map (λ f. f) (drop l.external-index l.external-items)) ≡ scope_of (beside l.frame l.state)
