use Rattle.std.proofs.Common.{◌≡◌, map, drop}
use Rattle.serde_json.specs.Find.{as_bool}
use Rattle.serde_json.specs.View.{view}
use Rattle.px_column.specs.Option.{each}
use Rattle.px_document.specs.Form.{with_front}
use Rattle.px_document.proofs.document.options.read_truths.Given as goal

-- what was read and what is left are all
abbrev pub invariant-loop-value : goal.invariant-loop-value
invariant-loop-value l = with_front l.truths.items (each as_bool (map view (drop l.value-index l.values))) ≡ each as_bool (map view l.values)
