use Rattle.std.proofs.Common.{◌≡◌, Some, refl}
use Rattle.std.specs.List.{slice_get}
use Rattle.std.proofs.lemmas.Option.{slice_get_read}
use Rattle.px_arena.proofs.Trees.{trees_in-length, trees_in-open}
use Rattle.px_arena.proofs.arena.Arena.get.Goals as goal
use Rattle.px_arena.proofs.arena.Arena.get.Goals.{After-index}

here : (c : After-index) → slice_get c.self.inside.nodes.items c.args.node.0 ≡ Some c.index.result.now
here c = slice_get_read _ _ _ _ refl (rw (← c.self.view_is, trees_in-length) at c.requires) c.index.ensures

pub returns-clause-children : goal.returns-clause-children
returns-clause-children c = c.self.invariant.falls _ _ (here c)

pub returns-clause-tree : goal.returns-clause-tree
returns-clause-tree c = rw (← c.self.view_is) (trees_in-open _ _ _ (here c) (c.self.invariant.falls _ _ (here c)))
