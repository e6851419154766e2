-- Steps without chunks.
use Rattle.std.specs.Prelude.{Bool, true, false, Some}
use Rattle.px_tree.specs.Step.{PlainStep, group}

-- a step that is no group step with chunks
abbrev pub is_unchunked : PlainStep → Bool
is_unchunked (group keys aggs (Some chunks)) = false
is_unchunked _ = true
