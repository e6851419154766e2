use Rattle.std.proofs.Common.{◌≡◌, drop, map}
use Rattle.std.specs.List.{flat_map}
use Rattle.px_column.specs.Option.{each}
use Rattle.px_frame.specs.External.{alone}
use Rattle.px_steps.specs.Plain.{agg_refusals}
use Rattle.px_tree.specs.Grouped.{aggregated_on}
use Rattle.px_document.specs.Form.{with_front}
use Rattle.px_vectors.specs.PlainStep.{tree_of}
use Rattle.px_vectors.proofs.plain_step.aggregate_columns.Given as goal

abbrev pub invariant-loop-agg : goal.invariant-loop-agg
invariant-loop-agg l = record {
  made : each (aggregated_on (alone l.frame) (map (λ p. p.items) l.parts)) (map tree_of l.aggs)
      ≡ with_front l.columns.items (each (aggregated_on (alone l.frame) (map (λ p. p.items) l.parts)) (map tree_of (drop l.agg-index l.aggs)));
  passed : flat_map (agg_refusals (alone l.frame)) (map tree_of l.aggs) ≡ flat_map (agg_refusals (alone l.frame)) (map tree_of (drop l.agg-index l.aggs));
}
