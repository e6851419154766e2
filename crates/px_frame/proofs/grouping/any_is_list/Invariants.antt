use Rattle.std.proofs.Common.{◌≡◌, drop}
use Rattle.std.specs.List.{list_any}
use Rattle.px_frame.specs.Groups.{is_list}
use Rattle.px_frame.proofs.grouping.any_is_list.Given as goal

abbrev pub invariant-loop-column : goal.invariant-loop-column
invariant-loop-column l = list_any is_list l.by ≡ list_any is_list (drop l.column-index l.by)
