use Rattle.px_window.proofs.Entries.{copied_on}
use Rattle.px_window.proofs.window_cache.copy_maps.Goals as goal

pub loop-key-preserved : goal.loop-key-preserved
loop-key-preserved c =
    copied_on c.loop-key.copies.entries c.put_map.new.copies.entries c.loop-key.key-iterator c.next.new.self c.args.maps.now.entries c.in-Some.key.now c.in-Some.map.now c.loop-key.invariant c.in-Some.ensures.steps c.in_ok-put_map.ensures.put
