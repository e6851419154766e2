use Rattle.px_window.specs.Cache.{IsExactMap}
use Rattle.px_window.proofs.Entries.{put_exact}
use Rattle.px_window.proofs.window_cache.WindowCache.insert_map.Goals as goal

pub invariant_of-self-2 : goal.invariant_of-self-2
invariant_of-self-2 c = rw c.in_ok-insert.ensures.entries (c.self.invariant.0, put_exact IsExactMap c.self.inside.maps.entries c.args.key c.args.map.items c.self.invariant.1 c.requires.exact)
