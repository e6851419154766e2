use Rattle.std.proofs.Common.{◌≡◌, [], drop, map, take}
use Rattle.px_frame.specs.Frame.{first_repeat, names_of}
use Rattle.px_frame.specs.Schema.{column_field, field_names}
use Rattle.px_frame.proofs.schema.schema_of.Given as goal

abbrev pub invariant-loop-column : goal.invariant-loop-column
invariant-loop-column l = record {
  so_far : l.schema ≡ map column_field (take l.column-index l.columns);
  rest : first_repeat [] (names_of l.columns) ≡ first_repeat (field_names l.schema) (names_of (drop l.column-index l.columns));
}
