use Rattle.std.proofs.Common.{◌≡◌, None, Some, rules}
use Rattle.json.specs.Json.{after_end_array}
use Rattle.serde_json.specs.Read.{converted}
use Rattle.px_document.specs.Document.{column_of}
use Rattle.px_document.specs.Tokens.{first_data}
use Rattle.px_document.proofs.Along.{column_shorter}
use Rattle.px_document.proofs.Tokens.{follows_end, follows_next}
use Rattle.px_document.proofs.document.in_order.read_columns.Goals as goal

pub loop-alloc-smaller : goal.loop-alloc-smaller
loop-alloc-smaller c =
    let going : (after_end_array c.loop-alloc.reader ≡ None) × (c.take_end_array.new.self ≡ c.loop-alloc.reader) = c.loop-alloc-test.ensures in
    let read : converted column_of (first_data 125 c.take_end_array.new.self) ≡ Some (c.in-Some.column, c.read_column.new.reader) = search rules in
    column_shorter c.in-Some.column c.loop-alloc.reader c.read_column.new.reader (rw (← going.1) read)

pub loop-alloc-preserved : goal.loop-alloc-preserved
loop-alloc-preserved c =
    let l = c.loop-alloc in
    let going : (after_end_array l.reader ≡ None) × (c.take_end_array.new.self ≡ l.reader) = c.loop-alloc-test.ensures in
    let read : converted column_of (first_data 125 c.take_end_array.new.self) ≡ Some (c.in-Some.column, c.read_column.new.reader) = search rules in
    rw c.in_ok-push.ensures.items (follows_next column_of 125 l.columns.items c.args.reader.now l.reader c.read_column.new.reader c.in-Some.column l.invariant going.0 (rw (← going.1) read))

pub returns : goal.returns
returns c = follows_end column_of 125 c.loop-alloc.columns.items c.args.reader.now c.loop-alloc.reader c.take_end_array.new.self c.loop-alloc.invariant c.loop-alloc-test.ensures
