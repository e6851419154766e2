use Rattle.std.proofs.Common.{◌≡◌, ◌++◌, nat_eq}
use Rattle.std.specs.List.{IsDistinct}
use Rattle.std.specs.Map.{keys_of}
use Rattle.px_window.proofs.cached_value.copy_cache.Given as goal

-- what is copied, and what is left, are the cache, whose keys are distinct
abbrev pub invariant-loop-key : goal.invariant-loop-key
invariant-loop-key l = (l.copies.entries ++ l.key-iterator ≡ l.cache.entries) × IsDistinct nat_eq (keys_of (l.copies.entries ++ l.key-iterator))
