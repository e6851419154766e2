use Rattle.std.proofs.Common.{◌≡◌, ◌++◌, drop, map, true, Some, vec_len}
use Rattle.px_column.specs.Prelude.{Kind, slots_fit, slots_of}
use Rattle.px_frame.specs.Schema.{column_field}
use Rattle.px_tree.specs.Typing.{kind_in}
use Rattle.px_vectors.specs.PlainStep.{tree_of, value_at_part}
use Rattle.px_vectors.proofs.plain_step.part_values.Given as goal

abbrev pub invariant-loop-part : goal.invariant-loop-part
invariant-loop-part l = record {
  values : map (value_at_part l.frame (tree_of l.agg)) (map (λ p. p.items) l.parts)
      ≡ slots_of l.values.items ++ map (value_at_part l.frame (tree_of l.agg)) (map (λ p. p.items) (drop l.part-index l.parts));
  fit : (k : Kind) → kind_in (tree_of l.agg) (map column_field l.frame) ≡ Some k → slots_fit k (slots_of l.values.items) ≡ true;
  len : vec_len l.values ≡ l.part-index;
}
