use Rattle.std.proofs.Common.{◌≡◌, drop, fold}
use Rattle.px_frame.specs.External.{with_field}
use Rattle.px_scope.proofs.scope.add_fields.Given as goal

abbrev pub invariant-loop-column : goal.invariant-loop-column
invariant-loop-column l = fold with_field l.schema (drop l.column-index l.columns) ≡ fold with_field l.initial.schema l.columns
