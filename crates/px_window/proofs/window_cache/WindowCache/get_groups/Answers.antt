use Rattle.px_window.specs.Cache.{IsExactGroups}
use Rattle.px_window.proofs.Entries.{lent_exact}
use Rattle.px_window.proofs.window_cache.WindowCache.get_groups.Goals as goal

pub returns-clause-exact : goal.returns-clause-exact
returns-clause-exact c = lent_exact IsExactGroups c.args.key.now c.self.inside.groups.entries c.get.result c.self.invariant.0 c.get.ensures.value
