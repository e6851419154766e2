use Rattle.std.proofs.Common.{Ok, ap, sym, ◌∙◌}
use Rattle.px_arena.specs.Arena.{trees_in}
use Rattle.px_arena.proofs.Trees.{trees_in-none}
use Rattle.px_arena.proofs.arena.Arena.new.Goals as goal

pub returns : goal.returns
returns c = ap Ok (sym (ap trees_in c.new.ensures.items ∙ trees_in-none))
