use Rattle.px_window.proofs.Entries.{copied_on}
use Rattle.px_window.proofs.window_cache.copy_groups.Goals as goal

pub loop-key-preserved : goal.loop-key-preserved
loop-key-preserved c =
    copied_on c.loop-key.copies.entries c.put_groups.new.copies.entries c.loop-key.key-iterator c.next.new.self c.args.groups.now.entries c.in-Some.key.now c.in-Some.value.now c.loop-key.invariant c.in-Some.ensures.steps c.in_ok-put_groups.ensures.put
