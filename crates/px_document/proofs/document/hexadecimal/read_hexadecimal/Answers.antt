use Rattle.std.proofs.Common.{◌≡◌, ◌∙◌, ◌+◌, ◌-◌, ◌≤◌, Some, None, ap, arith, get_or, length, sym}
use Rattle.px_document.specs.Document.{bytes_of_hex, hex_byte}
use Rattle.px_document.specs.Form.{with_front}
use Rattle.px_document.proofs.Readings.{hex_end, hex_left, hex_missed, hex_step, refused, with_front_none}
use Rattle.px_document.proofs.document.hexadecimal.read_hexadecimal.Goals as goal

pub loop-i-init : goal.loop-i-init
loop-i-init c = (omega arith, rw c.in_ok-bytes.ensures.items (with_front_none (bytes_of_hex c.args.text.now)))

pub loop-i-preserved : goal.loop-i-preserved
loop-i-preserved c =
    let l = c.loop-i in
    let two : 2 ≤ length c.args.text.now - l.i = omega arith in
    let made : hex_byte (get_or c.args.text.now l.i 0) (get_or c.args.text.now (l.i + 1) 0) ≡ Some c.in_ok-byte.byte = sym c.hex_byte.ensures ∙ c.in_ok-byte.ensures.ok_part in
    (omega arith, rw c.in_ok-push.ensures.items (hex_step l.bytes.items c.args.text.now l.i c.in_ok-byte.byte two made ∙ l.invariant.1))

pub loop-i-smaller : goal.loop-i-smaller
loop-i-smaller c = omega arith

pub returns-in_err-byte : goal.returns-in_err-byte
returns-in_err-byte c =
    let l = c.loop-i in
    let two : 2 ≤ length c.args.text.now - l.i = omega arith in
    let none : hex_byte (get_or c.args.text.now l.i 0) (get_or c.args.text.now (l.i + 1) 0) ≡ None = sym c.hex_byte.ensures ∙ c.in_err-byte.ensures.ok_part in
    let missed : bytes_of_hex c.args.text.now ≡ None = sym l.invariant.1 ∙ ap (with_front l.bytes.items) (hex_missed c.args.text.now l.i two none) in
    refused c.from_residual-in_err-byte.result (λ v. v.items) (bytes_of_hex c.args.text.now) c.from_residual-in_err-byte.ensures.0 missed

pub returns-then-i-text : goal.returns-then-i-text
returns-then-i-text c =
    let l = c.loop-i in
    sym l.invariant.1 ∙ ap (with_front l.bytes.items) (hex_left c.args.text.now l.i (omega arith) (omega arith))

pub returns : goal.returns
returns c =
    let l = c.loop-i in
    sym l.invariant.1 ∙ hex_end l.bytes.items c.args.text.now l.i (omega arith)
