use Rattle.std.proofs.Common.{◌≡◌, [], drop, take}
use Rattle.px_frame.specs.Frame.{first_repeat, names_of}
use Rattle.px_frame.proofs.frame.distinct_names.Given as goal

abbrev pub invariant-loop-column : goal.invariant-loop-column
invariant-loop-column l = record {
  so_far : l.names.keys ≡ names_of (take l.column-index l.columns);
  rest : first_repeat [] (names_of l.columns) ≡ first_repeat l.names.keys (names_of (drop l.column-index l.columns));
}
