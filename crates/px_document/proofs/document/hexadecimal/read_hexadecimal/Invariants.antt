use Rattle.std.proofs.Common.{◌≡◌, ◌≤◌, ◌-◌, length, drop}
use Rattle.px_document.specs.Document.{bytes_of_hex}
use Rattle.px_document.specs.Form.{with_front}
use Rattle.px_document.proofs.document.hexadecimal.read_hexadecimal.Given as goal

-- what was read and what is left are all
abbrev pub invariant-loop-i : goal.invariant-loop-i
invariant-loop-i l = (l.i ≤ length l.text) × (with_front l.bytes.items (bytes_of_hex (drop l.i l.text)) ≡ bytes_of_hex l.text)

abbrev pub decreases-loop-i : goal.decreases-loop-i
decreases-loop-i l = length l.text - l.i
