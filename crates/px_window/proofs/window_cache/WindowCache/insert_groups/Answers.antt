use Rattle.px_window.specs.Cache.{IsExactGroups}
use Rattle.px_window.proofs.Entries.{put_exact}
use Rattle.px_window.proofs.window_cache.WindowCache.insert_groups.Goals as goal

pub invariant_of-self-2 : goal.invariant_of-self-2
invariant_of-self-2 c = rw c.in_ok-insert.ensures.entries (put_exact IsExactGroups c.self.inside.groups.entries c.args.key c.args.groups c.self.invariant.0 c.requires.exact, c.self.invariant.1)
