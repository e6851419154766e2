use Rattle.std.proofs.Common.{◌≡◌, ◌++◌, map, drop}
use Rattle.px_frame.specs.Frame.{first_repeat}
use Rattle.px_tree.specs.Shape.{name_of}
use Rattle.px_tree.specs.View.{tree}
use Rattle.px_steps.proofs.planning.add_names.Given as goal

abbrev pub invariant-loop-expr : goal.invariant-loop-expr
invariant-loop-expr l = record {
  rest : first_repeat l.names.keys (map name_of (map tree (drop l.expr-index l.exprs))) ≡ first_repeat l.initial.names.keys (map name_of (map tree l.exprs));
  added : l.names.keys ++ map name_of (map tree (drop l.expr-index l.exprs)) ≡ l.initial.names.keys ++ map name_of (map tree l.exprs);
}
