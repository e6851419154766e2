use Rattle.std.proofs.Common.{arith}
use Rattle.std.proofs.lemmas.Int.{ints}
use Rattle.px_value.specs.LentView.{slot_of_ref}
use Rattle.px_operation.specs.Sum.{addend, IsWithin}
use Rattle.px_operation.proofs.SumLaws.{number_within}
use Rattle.px_column.proofs.column.Column.plus_row.Goals as goal

pub returns-clause-within : goal.returns-clause-within
returns-clause-within c =
    let one : IsWithin 1 (addend (slot_of_ref c.get_or_null.result)) = number_within c.args.self.now.kind _ c.get_or_null.ensures.fits in
    record { low = omega (arith, ints, c.number.ensures); high = omega (arith, ints, c.number.ensures) }
