use Rattle.std.proofs.Common.{subst, sym, Some}
use Rattle.px_window.specs.Cache.{IsExactMap}
use Rattle.px_window.proofs.Entries.{lent_exact}
use Rattle.px_window.proofs.window_cache.WindowCache.get_map.Goals as goal

pub returns-in-Some-clause-exact : goal.returns-in-Some-clause-exact
returns-in-Some-clause-exact c =
    subst (IsExactMap c.args.key.now) (sym c.as_slice.ensures) (lent_exact IsExactMap c.args.key.now c.self.inside.maps.entries (Some c.in-Some.map) c.self.invariant.1 c.in-Some.ensures.value)
