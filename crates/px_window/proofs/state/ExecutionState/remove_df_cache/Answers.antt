use Rattle.std.proofs.Common.{◌≡◌, ℕ, List, ap, ◌∙◌}
use Rattle.px_window.specs.State.{State, without_cached}
use Rattle.px_window.specs.declared.cached_value.CachedValue.{CachedValue}
use Rattle.px_window.proofs.Caching.{removed}
use Rattle.px_window.proofs.state.ExecutionState.remove_df_cache.Goals as goal

pub returns : goal.returns
returns c =
    let with_cache : List (ℕ × CachedValue) → State → State = λ cache s. record s { df_cache = cache } in
    let left = c.shift_remove.new.self.entries in
    let gone : left ≡ without_cached c.args.key c.self.inside.df_cache.entries = removed c.args.key c.self.inside.df_cache.entries left c.shift_remove.ensures.entries c.shift_remove.ensures.updates.1 in
    ap (with_cache left) c.self.view_is ∙ ap (λ cache. with_cache cache c.args.self.now) (gone ∙ ap (λ s. without_cached c.args.key s.df_cache) c.self.view_is)
