use Rattle.std.proofs.Common.{◌≡◌, drop, map}
use Rattle.std.specs.List.{list_any}
use Rattle.px_column.specs.Prelude.{is_list_kind}
use Rattle.px_frame.specs.CellView.{named_cell}
use Rattle.px_nodes.specs.Named.{kinds_of}
use Rattle.px_nodes.proofs.sort_by.has_lists.Given as goal

abbrev pub invariant-loop-key : goal.invariant-loop-key
invariant-loop-key l = list_any is_list_kind (kinds_of (map named_cell l.keys)) ≡ list_any is_list_kind (kinds_of (map named_cell (drop l.key-index l.keys)))
