use Rattle.std.proofs.Common.{◌≡◌, drop, map}
use Rattle.std.specs.List.{list_any}
use Rattle.px_column.specs.Prelude.{is_list_kind}
use Rattle.px_context.specs.Context.{cell_kind}
use Rattle.px_group_nodes.proofs.sort_by.have_lists.Given as goal

abbrev pub invariant-loop-key : goal.invariant-loop-key
invariant-loop-key l = list_any is_list_kind (map cell_kind l.keys) ≡ list_any is_list_kind (map cell_kind (drop l.key-index l.keys))
