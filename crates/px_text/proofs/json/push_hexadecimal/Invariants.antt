use Rattle.std.proofs.Common.{◌≡◌, ◌++◌, drop}
use Rattle.std.specs.List.{flat_map}
use Rattle.px_text.specs.Text.{hex_of}
use Rattle.px_text.proofs.json.push_hexadecimal.Given as goal

abbrev pub invariant-loop-byte : goal.invariant-loop-byte
invariant-loop-byte l = l.initial.out.items ++ flat_map hex_of l.bytes ≡ l.out.items ++ flat_map hex_of (drop l.byte-index l.bytes)
