use Rattle.std.proofs.Common.{◌≡◌, ◌∷◌, [], length, map, vec_len}
use Rattle.std.specs.List.{IsDistinct}
use Rattle.px_column.specs.Equality.{row_eq}
use Rattle.px_column.specs.Key.{keys_of}
use Rattle.px_frame.specs.Enter.{AreStarted}
use Rattle.px_frame.specs.Parts.{distinct, rows_of_keys}
use Rattle.px_frame.proofs.grouping.group_integers.Given as goal

abbrev pub invariant-loop-row : goal.invariant-loop-row
invariant-loop-row l = record {
  keys : l.seen.keys ≡ distinct row_eq (keys_of (l.key ∷ []) l.row);
  unique : IsDistinct row_eq l.seen.keys;
  as_long : length l.seen.keys ≡ vec_len l.groups;
  groups : map (λ g. g.1.items) l.groups.items ≡ rows_of_keys row_eq l.seen.keys (keys_of (l.key ∷ []) l.row);
  started : AreStarted l.groups.items;
}
