use Rattle.std.proofs.Common.{◌≡◌, Some, inl, unwrap_or, sym, ap, ◌∙◌}
use Rattle.px_window.specs.State.{cached_or_new}
use Rattle.px_window.proofs.Caching.{written_back, stands_there, stands_within}
use Rattle.px_window.proofs.state.ExecutionState.get_df_cache.Goals as goal

pub cached_mut-requires : goal.cached_mut-requires
cached_mut-requires c =
    let first = cached_or_new c.args.key c.args.cache_hits c.args.self.now.df_cache in
    stands_within c.args.self.now c.cached_place.new.self c.args.key c.in_ok-place.place first c.in_ok-place.ensures.kept c.in_ok-place.ensures.place

pub returns : goal.returns
returns c =
    let first = cached_or_new c.args.key c.args.cache_hits c.args.self.now.df_cache in
    let there = stands_there c.args.self.now c.cached_place.new.self c.args.key c.in_ok-place.place first c.in_ok-place.ensures.kept c.in_ok-place.ensures.place in
    let back = written_back c.args.self.now c.cached_place.new.self c.args.key c.in_ok-place.place first c.in_ok-place.ensures.kept c.in_ok-place.ensures.place in
    let same : Some c.cached_mut.result.now ≡ Some first = sym c.cached_mut.ensures.value ∙ there in
    ((λ i. inl (c.cached_mut.result.ghost_name, λ w. back w i)), record { value = ap (λ o. unwrap_or o first) same; memory = tt; after = tt })
