use Rattle.std.proofs.Common.{◌≡◌, ◌++◌, ◌-◌}
use Rattle.std.specs.List.{flat_map, range_with_len}
use Rattle.px_text.specs.Text.{row_line}
use Rattle.px_text.proofs.frame.push_rows.Given as goal

abbrev pub invariant-loop-row : goal.invariant-loop-row
invariant-loop-row l =
    l.initial.out.items ++ flat_map (row_line l.columns) (range_with_len 0 l.height) ≡ l.out.items ++ flat_map (row_line l.columns) (range_with_len l.row (l.height - l.row))
