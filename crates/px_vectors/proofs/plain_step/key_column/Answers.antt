use Rattle.std.proofs.Common.{◌≡◌, ◌∙◌, List, ℕ, length, ap, sym, arith, Some, Err}
use Rattle.std.specs.List.{range_with_len}
use Rattle.std.proofs.lemmas.List.FromFn.{length-range_with_len}
use Rattle.px_column.specs.Prelude.{is_list_kind}
use Rattle.px_frame.specs.Frame.{series_at, slots_at}
use Rattle.px_value.specs.declared.error.PxError.TheVariants.{ColumnNotFound}
use Rattle.px_steps.specs.Meets.{unless_refused}
use Rattle.px_vectors.proofs.PlainColumns.{all_slots}
use Rattle.px_vectors.proofs.PlainKeys.{key_found, key_missing, key_of_lists, key_passes}
use Rattle.px_vectors.proofs.Told.{told}
use Rattle.px_vectors.proofs.plain_step.key_column.Goals as goal

pub rows_of-requires : goal.rows_of-requires
rows_of-requires c =
    let all : c.in_ok-rows.rows.items ≡ range_with_len 0 c.len.result = told _ _ c.in_ok-rows.ensures in
    let n : length c.deref.result.now ≡ c.len.result = ap length (c.deref.ensures.value ∙ all) ∙ length-range_with_len 0 c.len.result in
    omega arith

pub returns : goal.returns
returns c =
    let s = c.in-Some.column.now in
    let all : c.in_ok-rows.rows.items ≡ range_with_len 0 c.len.result = told _ _ c.in_ok-rows.ensures in
    let rows : c.deref.result.now ≡ range_with_len 0 (length s.slots) = c.deref.ensures.value ∙ all ∙ ap (range_with_len 0) c.len.ensures in
    let made : c.in_ok-copy.copy ≡ series_at c.deref.result.now s = told _ _ c.in_ok-copy.ensures in
    let copied : c.in_ok-copy.copy ≡ s = made ∙ (λ i. record s { slots = (ap (slots_at s.slots) rows ∙ all_slots s.slots) i }) in
    let named : c.in_ok-try_clone-2.field-0 ≡ c.args.key.now = told _ _ c.in_ok-try_clone-2.ensures in
    let is : c.with_name.result ≡ record s { name = c.args.key.now } = c.with_name.ensures ∙ (λ i. record (copied i) { name = named i }) in
    (key_passes c.args.frame.now c.args.key.now s c.in-Some.ensures.found (ap is_list_kind (sym c.dtype.ensures) ∙ sym c.is_list.ensures ∙ c.if-is_list.false), key_found c.args.frame.now c.args.key.now s c.in-Some.ensures.found c.in-Some.ensures.height ∙ ap Some (sym is))

pub returns-in_default : goal.returns-in_default
returns-in_default c =
    ap unless_refused (key_missing c.args.frame.now c.args.key.now c.in_default.ensures.found) ∙ ap (λ (n : List ℕ). Err (ColumnNotFound n)) (sym (told _ _ c.in_ok-try_clone.ensures))

pub returns-then-is_list : goal.returns-then-is_list
returns-then-is_list c = ap unless_refused (key_of_lists c.args.frame.now c.args.key.now c.in-Some.column.now c.in-Some.ensures.found (ap is_list_kind (sym c.dtype.ensures) ∙ sym c.is_list.ensures ∙ c.if-is_list.true))
