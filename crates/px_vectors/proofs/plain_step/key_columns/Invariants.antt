use Rattle.std.proofs.Common.{◌≡◌, drop, map}
use Rattle.std.specs.List.{flat_map}
use Rattle.px_tree.specs.Tree.{column}
use Rattle.px_column.specs.Option.{each}
use Rattle.px_frame.specs.External.{alone}
use Rattle.px_steps.specs.Plain.{key_refusals}
use Rattle.px_tree.specs.Grouped.{key_on}
use Rattle.px_document.specs.Form.{with_front}
use Rattle.px_vectors.proofs.plain_step.key_columns.Given as goal

abbrev pub invariant-loop-key : goal.invariant-loop-key
invariant-loop-key l = record {
  made : each (key_on (alone l.frame)) (map column l.keys) ≡ with_front l.columns.items (each (key_on (alone l.frame)) (map column (drop l.key-index l.keys)));
  passed : flat_map (key_refusals (alone l.frame)) (map column l.keys) ≡ flat_map (key_refusals (alone l.frame)) (map column (drop l.key-index l.keys));
}
