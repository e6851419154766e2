use Rattle.px_arena.proofs.Trees.{trees_in-length, IsArena-more}
use Rattle.px_arena.proofs.arena.Arena.add.Goals as goal

pub invariant_of-self-2 : goal.invariant_of-self-2
invariant_of-self-2 c =
    rw c.in_ok-push.ensures.items
    (IsArena-more _ _ c.self.invariant (rw (← c.self.view_is, trees_in-length) at c.requires.children) (rw (← c.self.view_is, trees_in-length) at c.requires.room))
