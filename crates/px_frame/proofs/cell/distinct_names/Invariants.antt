use Rattle.std.proofs.Common.{◌≡◌, [], drop, map, take}
use Rattle.px_frame.specs.CellView.{named_cell}
use Rattle.px_frame.specs.Frame.{first_repeat}
use Rattle.px_frame.proofs.cell.distinct_names.Given as goal

abbrev pub invariant-loop-cell : goal.invariant-loop-cell
invariant-loop-cell l = record {
  so_far : l.names.keys ≡ map (λ c. c.name) (map named_cell (take l.cell-index l.cells));
  rest : first_repeat [] (map (λ c. c.name) (map named_cell l.cells)) ≡ first_repeat l.names.keys (map (λ c. c.name) (map named_cell (drop l.cell-index l.cells)));
}
