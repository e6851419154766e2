use Rattle.std.proofs.Common.{◌≡◌, map, drop}
use Rattle.serde_json.specs.View.{view}
use Rattle.px_column.specs.Option.{each}
use Rattle.px_document.specs.Form.{with_front}
use Rattle.px_document.specs.StepForm.{chunk_length_of}
use Rattle.px_document.proofs.document.step.read_chunk_lengths.Given as goal

-- what was read and what is left are all
abbrev pub invariant-loop-value : goal.invariant-loop-value
invariant-loop-value l = with_front l.lengths.items (each chunk_length_of (map view (drop l.value-index l.values))) ≡ each chunk_length_of (map view l.values)
