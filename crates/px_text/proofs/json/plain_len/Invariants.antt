use Rattle.std.proofs.Common.{◌≡◌, ◌++◌, take, drop}
use Rattle.std.specs.List.{flat_map}
use Rattle.px_text.specs.Text.{escaped}
use Rattle.px_text.proofs.json.plain_len.Given as goal

abbrev pub invariant-loop-i : goal.invariant-loop-i
invariant-loop-i l = flat_map escaped l.bytes ≡ take l.i l.bytes ++ flat_map escaped (drop l.i l.bytes)
