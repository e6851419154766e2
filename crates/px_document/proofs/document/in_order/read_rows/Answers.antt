use Rattle.std.proofs.Common.{◌≡◌, ◌+◌, [], ◌∷◌, None, Some, ◌∙◌, ap, arith, rules, subst, sym}
use Rattle.std.proofs.lemmas.List.{length-append}
use Rattle.json.specs.Json.{after_end_array}
use Rattle.px_column.specs.Prelude.{kind_of}
use Rattle.px_document.specs.Document.{fitting_place}
use Rattle.json.specs.Reads.{token_of}
use Rattle.serde_json.specs.Read.{converted}
use Rattle.px_document.specs.Tokens.{IsTokenPushed, first_data}
use Rattle.px_document.proofs.Tokens.{follows_end, follows_next, row_taken}
use Rattle.px_document.proofs.document.in_order.read_rows.Goals as goal

pub returns-then-take_end_array : goal.returns-then-take_end_array
returns-then-take_end_array c =
    let l = c.loop-row in
    let made : c.in_ok-finish.field-0 ≡ l.rows = search rules in
    let all = follows_end (fitting_place (kind_of c.args.dtype.now)) 123 l.rows.slots c.args.reader.now l.reader c.take_end_array.new.self l.invariant.built c.if-take_end_array.ensures in
    rw made (l.invariant.name, l.invariant.kind, omega (arith, l.invariant.count, c.loop-row-test.true), all)

pub loop-row-preserved : goal.loop-row-preserved
loop-row-preserved c =
    let l = c.loop-row in
    let going : (after_end_array l.reader ≡ None) × (c.take_end_array.new.self ≡ l.reader) = c.if-take_end_array.ensures in
    let row : IsTokenPushed (token_of c.in-Some.token) l.rows c.push_token.new.rows = search rules in
    let told = row_taken l.rows (kind_of c.args.dtype.now) (token_of c.in-Some.token) c.next.new.self row.0 l.invariant.kind row.1 in
    let here = subst (λ ts. converted (fitting_place (kind_of c.args.dtype.now)) (first_data 123 ts) ≡ Some (row.0, c.next.new.self)) (sym c.in-Some.ensures.value ∙ going.1) told in
    let next = follows_next (fitting_place (kind_of c.args.dtype.now)) 123 l.rows.slots c.args.reader.now l.reader c.next.new.self row.0 l.invariant.built going.0 here in
    rw row.2 (record {
      name = l.invariant.name;
      kind = l.invariant.kind;
      count = length-append l.rows.slots (row.0 ∷ []) ∙ ap (λ n. n + 1) l.invariant.count;
      built = next;
    })
