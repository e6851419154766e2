use Rattle.std.proofs.Common.{◌≡◌, [], ◌∷◌, Some, codes, length, map, rules}
use Rattle.json.specs.Token.{end_object, key}
use Rattle.serde_json.specs.Read.{converted}
use Rattle.px_document.specs.Document.{column_of}
use Rattle.px_document.specs.StepForm.{steps_of}
use Rattle.px_document.specs.Tokens.{document_head, first_data, items_made}
use Rattle.px_tree.specs.Step.{step_view}
use Rattle.px_document.proofs.Along.{document_read}
use Rattle.px_document.proofs.document.in_order.read_parts.Goals as goal

pub returns-then-is_none : goal.returns-then-is_none
returns-then-is_none c =
    let columns = c.in-Some.columns.items in
    let steps = map step_view c.in-Some-2.steps.items in
    let ts = c.take_document_head.new.reader in
    let head : c.args.reader.now ≡ document_head ts = search rules in
    let made : items_made column_of 125 (length ts) ts ≡ Some (columns, c.read_columns.new.reader) = search rules in
    let named : c.read_columns.new.reader ≡ key (codes "steps") ∷ c.take_key.new.reader = search rules in
    let stepped : converted steps_of (first_data 126 c.take_key.new.reader) ≡ Some (steps, c.next_steps.new.reader) = search rules in
    let over : c.next_steps.new.reader ≡ end_object ∷ [] = search rules in
    document_read columns steps c.args.reader.now ts c.read_columns.new.reader c.take_key.new.reader c.next_steps.new.reader head made named stepped over
