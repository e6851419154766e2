use Rattle.std.proofs.Common.{◌∙◌, arith, sym}
use Rattle.px_column.specs.Datum.{items-slots}
use Rattle.px_column.proofs.Reducing.{fits_slots}
use Rattle.px_context.proofs.Reading.{length_slots}
use Rattle.px_context.proofs.context.joining.push_value.Goals as goal

pub push_all-requires-clause-fits : goal.push_all-requires-clause-fits
push_all-requires-clause-fits c =
    let fit = rw c.in-List.is at c.requires.fits in
    sym (fits_slots c.args.rows.now.kind c.in-List.values.now) ∙ fit

pub push_all-requires-clause-room : goal.push_all-requires-clause-room
push_all-requires-clause-room c =
    let room = rw c.in-List.is at c.requires.room in
    omega (arith, room, length_slots c.in-List.values.now)

pub returns-in-List-clause-ok : goal.returns-in-List-clause-ok
returns-in-List-clause-ok c = rw (c.in-List.is, items-slots) c.push_all.ensures.ok
