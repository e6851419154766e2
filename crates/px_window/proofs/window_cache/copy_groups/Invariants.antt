use Rattle.std.proofs.Common.{◌≡◌, ◌++◌}
use Rattle.std.specs.List.{IsDistinct}
use Rattle.std.specs.Map.{keys_of}
use Rattle.px_window.specs.Key.{key_eq}
use Rattle.px_window.proofs.window_cache.copy_groups.Given as goal

-- what is copied, and what is left, are all groups, whose keys are distinct
abbrev pub invariant-loop-key : goal.invariant-loop-key
invariant-loop-key l = (l.copies.entries ++ l.key-iterator ≡ l.groups.entries) × IsDistinct key_eq (keys_of (l.copies.entries ++ l.key-iterator))
