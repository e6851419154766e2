-- What contracts see of the state of an evaluation.
use Rattle.std.specs.Prelude.{ℕ, ℤ, pos, Bool, false, not, List, [], Option, None, Result, Ok, Err, is_some, filter, nat_eq, refl, unwrap_or, if◌then◌else◌}
use Rattle.std.specs.Coded.{Coded, code_by, coded×, coded_ℕ, coded_ℤ, coded_bool, coded_list, coded_option}
use Rattle.std.specs.List.{flat_map, position_or_len}
use Rattle.std.specs.Map.{keys_of, lookup}
use Rattle.indexmap.specs.IndexMap.{insert_entry, set_value_at}
use Rattle.px_column.specs.Prelude.{Series}
use Rattle.px_column.specs.Series.{coded_series}
use Rattle.px_frame.specs.External.{Frame}
use Rattle.px_frame.specs.Schema.{FieldKind, coded_field}
use Rattle.px_value.specs.declared.error.PxError.{PxError}
use Rattle.px_value.specs.declared.error.PxError.TheVariants.{ComputeError}
use Rattle.px_value.specs.declared.error.ComputeWhy.TheVariants.{Interrupted}
use Rattle.px_window.specs.declared.cached_value.CachedValue.{CachedValue}
use Rattle.px_window.specs.declared.flags.StateFlags.{StateFlags}
use Rattle.px_window.specs.Cache.{Entries, coded_entries, no_entries}
use Rattle.px_window.specs.Flags.{with_flag, verbose_bit, cache_window_bit}

-- the schema that is kept, the branch of a plan, the flags, the frames from outside, whether the evaluation is to stop, the
-- frames that are cached, each under its key, and what is kept of windows
pub record State : Type 0 where
  pub schema_cache : Option (List FieldKind)
  pub branch_idx : ℕ
  pub flags : StateFlags
  pub ext_contexts : List (List Series)
  pub is_stopped : Bool
  pub df_cache : List (ℕ × CachedValue)
  pub window_cache : Entries

abbrev coded_flags : Coded StateFlags
coded_flags = code_by ℕ coded_ℕ (λ f. f.0) (λ bits. record { 0 = bits }) (λ _. refl)

abbrev coded_cached : Coded CachedValue
coded_cached = code_by (ℤ × Option (List Series)) (coded× coded_ℤ (coded_option (coded_list coded_series))) (λ v. (v.hits, v.frame)) (λ p. record { hits = p.0; frame = p.1 }) (λ _. refl)

-- states are told apart by their parts
abbrev pub coded_state : Coded State
coded_state =
    code_by (Option (List FieldKind) × (ℕ × (StateFlags × (List (List Series) × (Bool × (List (ℕ × CachedValue) × Entries))))))
    (coded× (coded_option (coded_list coded_field)) (coded× coded_ℕ (coded× coded_flags (coded× (coded_list (coded_list coded_series)) (coded× coded_bool (coded× (coded_list (coded× coded_ℕ coded_cached)) coded_entries))))))
    (λ s. (s.schema_cache, (s.branch_idx, (s.flags, (s.ext_contexts, (s.is_stopped, (s.df_cache, s.window_cache)))))))
    (λ p. record { schema_cache = p.0; branch_idx = p.1.0; flags = p.1.1.0; ext_contexts = p.1.1.1.0; is_stopped = p.1.1.1.1.0; df_cache = p.1.1.1.1.1.0; window_cache = p.1.1.1.1.1.1 }) (λ _. refl)

-- the state of a new evaluation
abbrev pub new_state : Bool → State
new_state verbose = record {
  schema_cache = None;
  branch_idx = 0;
  flags = record { 0 = if verbose then with_flag cache_window_bit verbose_bit else cache_window_bit };
  ext_contexts = [];
  is_stopped = false;
  df_cache = [];
  window_cache = no_entries;
}

-- the columns of the frames from outside, one frame after another
abbrev pub external_columns : State → List Series
external_columns s = flat_map (λ f. f) s.ext_contexts

-- a frame's columns with those beside them
abbrev pub beside : List Series → State → Frame
beside columns s = record { columns = columns; external = external_columns s }

-- an evaluation that is to stop is interrupted
abbrev pub unless_stopped : Bool → Result (Unit {0}) PxError
unless_stopped stopped = if stopped then Err (ComputeError Interrupted) else Ok tt

-- what is cached under a key, `None` where nothing is
abbrev pub cached_at : ℕ → List (ℕ × CachedValue) → Option CachedValue
cached_at key cache = lookup (nat_eq key) cache

-- whether something is cached under a key
abbrev pub is_cached : ℕ → List (ℕ × CachedValue) → Bool
is_cached key cache = is_some (cached_at key cache)

-- what is cached under a key, or else a new value with so many hits and no frame
abbrev pub cached_or_new : ℕ → ℕ → List (ℕ × CachedValue) → CachedValue
cached_or_new key hits cache = unwrap_or (cached_at key cache) (record { hits = pos hits; frame = None })

-- a cache with this value under a key, which stays at its place where it is there, and else goes last
abbrev pub with_cached : ℕ → CachedValue → List (ℕ × CachedValue) → List (ℕ × CachedValue)
with_cached key value cache = insert_entry nat_eq cache key value

-- a cache without a key
abbrev pub without_cached : ℕ → List (ℕ × CachedValue) → List (ℕ × CachedValue)
without_cached key cache = filter (λ e. not (nat_eq key e.0)) cache

-- the place of a key in a cache, the cache's length where the key is not there
abbrev pub place_of : ℕ → List (ℕ × CachedValue) → ℕ
place_of key cache = position_or_len (nat_eq key) (keys_of cache)

-- a cache with this value at a place
abbrev pub with_place : ℕ → CachedValue → List (ℕ × CachedValue) → List (ℕ × CachedValue)
with_place place value cache = set_value_at cache place value

-- a state but for what is kept of windows
abbrev pub without_cache : State → State
without_cache s = record s { window_cache = no_entries }
