use Rattle.std.proofs.Common.{◌≡◌, ◌++◌, take}
use Rattle.px_context.proofs.context.joining.push_all.Given as goal

abbrev pub invariant-loop-index : goal.invariant-loop-index
invariant-loop-index l = l.rows ≡ record l.fn.rows { slots = l.fn.rows.slots ++ take l.index l.values }
