use Rattle.std.proofs.Common.{◌≡◌, map, drop}
use Rattle.serde_json.specs.View.{view}
use Rattle.px_document.specs.Document.{column_of}
use Rattle.px_column.specs.Option.{each}
use Rattle.px_document.specs.Form.{with_front}
use Rattle.px_document.proofs.document.column.read_columns.Given as goal

-- what was read and what is left are all
abbrev pub invariant-loop-value : goal.invariant-loop-value
invariant-loop-value l = with_front l.columns.items (each column_of (map view (drop l.value-index l.values))) ≡ each column_of (map view l.values)
