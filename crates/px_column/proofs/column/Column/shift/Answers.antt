use Rattle.std.proofs.Common.{◌≡◌, ◌∙◌, ◌∷◌, ◌++◌, [], take, pos, ◌-ℤ◌, ap, subst, sym, arith}
use Rattle.std.specs.Int.{w64, cast_signed, cast_unsigned}
use Rattle.std.proofs.lemmas.Int.{ints}
use Rattle.px_value.specs.LentView.{slot_of_ref}
use Rattle.px_value.specs.Series.{Series}
use Rattle.px_operation.specs.Function.{shifted, slot_from}
use Rattle.px_column.proofs.Placing.{shift_more}
use Rattle.px_column.proofs.column.Column.shift.Goals as goal

pub loop-row-preserved : goal.loop-row-preserved
loop-row-preserved c =
    let same : cast_signed w64 (cast_unsigned w64 c.args.periods) ≡ c.args.periods = omega (arith, ints) in
    let xs = c.args.self.now.slots in
    let now = c.in_ok-push_ref.ensures.ok in
    let before : c.loop-row.rows.slots ≡ take c.loop-row.row (shifted c.args.periods xs) = subst (λ z. c.loop-row.rows.slots ≡ take c.loop-row.row (shifted z xs)) same c.loop-row.invariant.built in
    let value : slot_of_ref c.get_before.result ≡ slot_from xs (pos c.loop-row.row -ℤ c.args.periods) = subst (λ z. slot_of_ref c.get_before.result ≡ slot_from xs (pos c.loop-row.row -ℤ z)) same c.get_before.ensures.value in
    record {
      name = ap (λ (s : Series). s.name) now ∙ c.loop-row.invariant.name;
      kind = ap (λ (s : Series). s.kind) now ∙ c.loop-row.invariant.kind;
      built = rw same (ap (λ (s : Series). s.slots) now ∙ (λ i. before i ++ value i ∷ []) ∙ sym (shift_more c.args.periods xs c.loop-row.row (omega (arith, c.len-len.ensures))));
    }
