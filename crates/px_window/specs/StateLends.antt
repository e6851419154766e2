-- What a state ends as, once a reference into its cache has ended.
use Rattle.std.specs.Prelude.{ℕ, Result}
use Rattle.std.specs.Borrow.{Fml, MutBor, Lends, LendsIfOk}
use Rattle.px_value.specs.declared.error.PxError.{PxError}
use Rattle.px_window.specs.State.{State, with_cached, with_place}
use Rattle.px_window.specs.contracts.cached_value.CachedValue.{the_row as cached_row}
use Rattle.px_window.specs.contracts.state.ExecutionState.{the_row}
use Rattle.px_window.specs.declared.cached_value.CachedValue.{CachedValue}

-- it is as it was, but what was last written through r stands at the place of its cache
abbrev pub LendsPlace : MutBor State → ℕ → MutBor CachedValue → Fml
LendsPlace s place r = Lends the_row cached_row s r (λ w. record s.now { df_cache = with_place place w s.now.df_cache })

-- it is as it was, but what was last written through r is cached under the key; where the call was refused it is as it was
abbrev pub LendsCached : MutBor State → ℕ → Result (MutBor CachedValue) PxError → Fml
LendsCached s key r = LendsIfOk the_row cached_row s r (λ w. record s.now { df_cache = with_cached key w s.now.df_cache }) s.now
