use Rattle.std.proofs.Common.{◌≡◌, Some, None, pos, sym, ap, ◌∙◌, position, nat_eq}
use Rattle.std.specs.Map.{keys_of}
use Rattle.px_window.specs.declared.cached_value.CachedValue.{CachedValue}
use Rattle.px_window.proofs.Caching.{found_place, put_again, missed_place}
use Rattle.px_window.proofs.state.ExecutionState.cached_place.Goals as goal

pub returns-in-Some-clause-kept : goal.returns-in-Some-clause-kept
returns-in-Some-clause-kept c =
    let at : Some c.in-Some.place ≡ position (nat_eq c.args.key) (keys_of c.args.self.now.df_cache) = c.in-Some.ensures.index ∙ ap (λ s. position (nat_eq c.args.key) (keys_of s.df_cache)) c.self.view_is in
    let there = found_place c.args.key c.args.self.now.df_cache c.in-Some.place at in
    let d : CachedValue = record { hits = pos c.args.cache_hits; frame = None } in
    ap (λ cache. record c.args.self.now { df_cache = cache }) (sym (put_again c.args.key c.args.self.now.df_cache d there.1))

pub returns-clause-place : goal.returns-clause-place
returns-clause-place c =
    rw (← c.self.view_is) (c.len-place.ensures.len ∙ sym (missed_place c.args.key c.self.inside.df_cache.entries c.in_default.ensures.index))
