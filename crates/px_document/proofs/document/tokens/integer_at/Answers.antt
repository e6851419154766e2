use Rattle.std.proofs.Common.{rules, ◌≡◌, ◌==◌, ◌<◌, ◌≤◌, ◌^◌, Some, drop, get_or, option_and_then, true, false, pos, FitsSigned, to_z, of_z, w64, sym, ap, ◌∙◌, arith, subst, take_all, length-drop}
use Rattle.fast_float.specs.Text.{IsInteger, digits_of, scan, with_sign}
use Rattle.serde_json.specs.Find.{as_integer}
use Rattle.serde_json.specs.Read.{number_of}
use Rattle.px_document.proofs.Integers.{below_zero, fits_size, negative_of, unsigned_of}
use Rattle.px_document.proofs.document.tokens.integer_at.Goals as goal

pub returns-in_ok-number-2 : goal.returns-in_ok-number-2
returns-in_ok-number-2 c =
    let s = c.as_bytes-bytes.result.now in
    let sign : (get_or s 0 0 == 45) ≡ false = sym c.if-is_negative.ensures.value in
    let parts : c.scan-else-is_negative.result ≡ scan s = c.scan-else-is_negative.ensures.parts in
    let text : s ≡ c.args.text.now = c.as_bytes-bytes.ensures.value in
    let told = c.in_ok-number-2.ensures in
    let n = c.in_ok-number-2.number in
    let same : to_z mir.Syntax.w128 (of_z mir.Syntax.w128 c.from-else-is_negative.result) ≡ pos n = search rules in
    ap (λ t. option_and_then as_integer (number_of t)) (sym text) ∙ unsigned_of s n sign (subst IsInteger parts told.0.0) (subst (λ p. digits_of p < 2 ^ 64) parts told.0.1) (told.1 ∙ ap digits_of parts) ∙ ap Some (sym same)

pub returns-then-number-lt0 : goal.returns-then-number-lt0
returns-then-number-lt0 c =
    let s = c.as_bytes-bytes.result.now in
    let sign : (get_or s 0 0 == 45) ≡ true = sym c.if-is_negative.ensures.value in
    let parts : c.scan.result ≡ scan (drop 1 s) = c.scan.ensures.parts ∙ ap scan (take_all _ (drop 1 s) (omega (arith, length-drop 1 s))) in
    let text : s ≡ c.args.text.now = c.as_bytes-bytes.ensures.value in
    let told = c.in_ok-number.ensures in
    let z = c.in_ok-number.number in
    let n = digits_of (scan (drop 1 s)) in
    let is : z ≡ with_sign true n = told.1 ∙ ap (λ p. with_sign true (digits_of p)) parts in
    let seen : to_z w64 (of_z w64 z) ≡ z = search rules in
    let same : to_z mir.Syntax.w128 (of_z mir.Syntax.w128 c.from.result) ≡ z = search rules in
    let some : 0 < n = below_zero n (rw (← is, ← seen) c.if-number-lt0.true) in
    let less : n ≤ 2 ^ 63 = fits_size n (subst (λ p. FitsSigned w64 (with_sign true (digits_of p))) parts told.0.1) in
    ap (λ t. option_and_then as_integer (number_of t)) (sym text) ∙ negative_of s z sign (subst IsInteger parts told.0.0) some less is ∙ ap Some (sym same)
