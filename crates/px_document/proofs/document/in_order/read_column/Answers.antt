use Rattle.std.proofs.Common.{◌≡◌, ◌∷◌, Ok, Some, rules}
use Rattle.json.specs.Token.{end_object}
use Rattle.px_column.specs.Prelude.{kind_of}
use Rattle.px_document.specs.Document.{kind_named}
use Rattle.px_document.specs.Tokens.{IsRowsOf}
use Rattle.px_document.proofs.Along.{column_read, read_well}
use Rattle.px_document.proofs.document.in_order.read_column.Goals as goal

pub returns-then-take_end_object : goal.returns-then-take_end_object
returns-then-take_end_object c =
    let k = kind_of c.in-Some-2.dtype in
    let type = c.in-Some.type_name.now in
    let read : c.read_type_name.result ≡ Ok c.in-Some-2.dtype = search rules in
    let named : kind_named type ≡ Some k = read_well kind_of c.read_type_name.result c.in-Some-2.dtype (kind_named type) c.read_type_name.ensures read in
    let over : c.read_rows.new.reader ≡ end_object ∷ c.take_end_object.new.reader = search rules in
    let rows : IsRowsOf c.in-Some.name.now k c.in-Some-3.column c.take_head.new.reader c.read_rows.new.reader = search rules in
    column_read c.in-Some.name.now type k c.in-Some-3.column c.args.reader.now c.take_head.new.reader c.read_rows.new.reader c.take_end_object.new.reader c.in-Some.ensures named rows over
