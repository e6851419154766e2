use Rattle.std.proofs.Common.{◌≡◌, sym, arith}
use Rattle.std.proofs.lemmas.Grind.{common_steps}
use Rattle.serde_json.specs.View.{view}
use Rattle.px_column.specs.Prelude.{lists, kind_of, datum_of}
use Rattle.px_document.proofs.Readings.{list_taken, list_missed}
use Rattle.px_document.proofs.document.place.+place.Goals as goal

pub read_place-returns-in_err-read_list-in-List : goal.read_place-returns-in_err-read_list-in-List
read_place-returns-in_err-read_list-in-List t c =
    let k : kind_of c.args.dtype.now ≡ lists (kind_of c.deref.result.now) = grind (arith, common_steps) in
    let missed = list_missed (kind_of c.deref.result.now) (view c.args.value.now) c.in_err-read_list-in-List.field-0.0 (sym c.if-is_null.ensures) c.in_err-read_list-in-List.ensures in
    rw k (grind (arith, common_steps, missed))

pub read_place-returns-in_ok-read_list-in-List : goal.read_place-returns-in_ok-read_list-in-List
read_place-returns-in_ok-read_list-in-List t c =
    let k : kind_of c.args.dtype.now ≡ lists (kind_of c.deref.result.now) = grind (arith, common_steps) in
    let taken = list_taken (kind_of c.deref.result.now) (view c.args.value.now) (datum_of c.in_ok-read_list-in-List.field-0) (sym c.if-is_null.ensures) c.in_ok-read_list-in-List.ensures in
    rw k taken
