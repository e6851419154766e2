-- Why what a window's rows are ordered by may have no value.
use Rattle.std.specs.Prelude.{Option, Some, None}
use Rattle.px_value.specs.declared.error.PxError.{PxError}
use Rattle.px_value.specs.declared.sort_options.SortOptions.{SortOptions}
use Rattle.px_frame.specs.External.{Frame}
use Rattle.px_answers.specs.Planned.{Planned}
use Rattle.px_answers.specs.Value.{IsCause}

-- it is why the expression that orders them has none; without an order there is no such cause
abbrev pub IsOrderCause : PxError → Option (Planned × SortOptions) → Frame → Type 0
IsOrderCause e None frame = ⊥
IsOrderCause e (Some o) frame = IsCause e o.0 frame
