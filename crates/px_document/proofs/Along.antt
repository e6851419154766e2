-- Columns and documents that are read along their tokens.
use Rattle.std.proofs.Common.{◌≡◌, ℕ, ◌^◌, ◌<◌, List, [], ◌∷◌, length, Option, Some, None, option_and_then, option_map, Result, Ok, codes, refl, sym, ap, ap₂, ◌∙◌, arith}
use Rattle.json.specs.Token as token
use Rattle.json.specs.Token.{Token}
use Rattle.json.specs.Json.{read_key, value}
use Rattle.serde_json.specs.Data.{array, object, string, Items, no_members, put}
use Rattle.serde_json.specs.Read.{converted}
use Rattle.px_column.specs.Option.{◌>>=◌, each}
use Rattle.px_column.specs.Prelude.{Kind, Series}
use Rattle.px_document.specs.Document.{Doc, column_of, column_with, fitting_place, kind_named, place_of, rows_under}
use Rattle.px_document.specs.Form.{ReadsBy, listed}
use Rattle.px_document.specs.StepForm.{any_document_of, steps_of}
use Rattle.px_tree.specs.Step.{PlainStep}
use Rattle.px_document.specs.declared.document.fault.DocumentFault.{DocumentFault}
use Rattle.px_document.specs.Tokens.{IsRowsOf, column_head, document_head, first_data, items_made, only_data}
use Rattle.px_document.proofs.Fitting.{each_length, fitting_rows}
use Rattle.px_document.proofs.Tokens.{Goes, converted_from, first_array, first_object, first_token, items_there, member_next, no_member, shorter, whole_data}

-- what was read is what is expected
pub read_well : {X Y : Type 0} (view : X → Y) (r : Result X DocumentFault) (x : X) (o : Option Y) → ReadsBy view r o → r ≡ Ok x → o ≡ Some (view x)
read_well view r x o reads e = rw e at reads

parts_read : (name type : List ℕ) (k : Kind) (ds : Items) (o : Option Kind) → o ≡ Some k
    → (o >>= λ kind. each (place_of kind) (listed ds) >>= λ places. column_with name kind places) ≡ (each (place_of k) (listed ds) >>= column_with name k)
parts_read name type k ds None e = absurd (cc)
parts_read name type k ds (Some j) e = let same : j ≡ k = cc in ap (λ kind. each (place_of kind) (listed ds) >>= λ places. column_with name kind places) same

-- the members of a column are the column
column_there : (name type : List ℕ) (k : Kind) (c : Series) (ds : Items) → kind_named type ≡ Some k → c.name ≡ name → c.kind ≡ k → length c.slots < 2 ^ 32 → each (fitting_place k) (listed ds) ≡ Some c.slots
    → column_of (object (put (codes "values") (array ds) (put (codes "type") (string type) (put (codes "name") (string name) no_members)))) ≡ Some c
column_there name type k c ds named is_name is_kind short made =
    let count : length c.slots ≡ length (listed ds) = each_length (fitting_place k) (listed ds) c.slots made in
    let fewer : length (listed ds) < 2 ^ 32 = omega (arith, count, short) in
    let rows : (each (place_of k) (listed ds) >>= column_with name k) ≡ Some (rows_under name k c.slots) = fitting_rows name k (listed ds) fewer ∙ ap (option_map (rows_under name k)) made in
    let same : rows_under name k c.slots ≡ c = ap₂ (λ n j. rows_under n j c.slots) (sym is_name) (sym is_kind) in
    parts_read name type k ds (kind_named type) named ∙ rows ∙ ap Some same

-- what stands along the tokens of a column is the column
pub column_read : (name type : List ℕ) (k : Kind) (c : Series) (old ts r end : List Token) → old ≡ column_head name type ts → kind_named type ≡ Some k → IsRowsOf name k c ts r → r ≡ token.end_object ∷ end
    → converted column_of (first_data 125 old) ≡ Some (c, end)
column_read name type k c old ts r end head named rows over =
    let there = items_there (fitting_place k) 123 (length ts) ts r c.slots rows.3 in
    let ds = there.0 in
    let from_array = token.begin_array ∷ ts in
    let from_values = token.key (codes "values") ∷ from_array in
    let from_type = token.key (codes "type") ∷ token.string type ∷ from_values in
    let from_name = token.key (codes "name") ∷ token.string name ∷ from_type in
    let one = put (codes "name") (string name) no_members in
    let two = put (codes "type") (string type) one in
    let three = put (codes "values") (array ds) two in
    let array_first = first_array 124 ts r ds (omega arith) there.1 in
    let no_more : Goes 124 three r three end = no_member 124 three r end (ap read_key over) in
    let values_more : Goes 124 two from_values three end = member_next 124 two from_values from_array r (codes "values") (array ds) three end refl array_first no_more in
    let type_more : Goes 124 one from_type three end =
    member_next 124 one from_type (token.string type ∷ from_values) from_values (codes "type") (string type) three end refl (first_token 124 (token.string type) from_values (string type) refl) values_more in
    let name_more : Goes 124 no_members from_name three end =
    member_next 124 no_members from_name (token.string name ∷ from_type) from_type (codes "name") (string name) three end refl (first_token 124 (token.string name) from_type (string name) refl) type_more in
    let object_first = first_object 125 from_name end three (omega arith) name_more in
    ap (λ us. converted column_of (first_data 125 us)) head ∙ ap (converted column_of) object_first
    ∙ ap (option_map {U = Series × List Token} (λ x. (x, end))) (column_there name type k c ds named rows.0 rows.1 rows.2 there.2)

-- the tokens of a column are more than those behind it
pub column_shorter : (c : Series) (old new : List Token) → converted column_of (first_data 125 old) ≡ Some (c, new) → length new < length old
column_shorter c old new e = let d = converted_from column_of (first_data 125 old) c new e in shorter 125 old new d.0 d.1

abbrev doc_of : List Series → List PlainStep → Doc
doc_of columns steps = record { columns = columns; steps = steps }

document_there : (columns : List Series) (steps : List PlainStep) (o : Option (List Series)) (q : Option (List PlainStep)) → o ≡ Some columns → q ≡ Some steps
    → ◌≡◌ {A = Option Doc} (o >>= λ cs. q >>= λ ss. Some (doc_of cs ss)) (Some (doc_of columns steps))
document_there columns steps o q e f = rw (e, f) refl

-- what stands along the tokens of a document is the document
pub document_read : (columns : List Series) (steps : List PlainStep) (old ts r s e : List Token) → old ≡ document_head ts → items_made column_of 125 (length ts) ts ≡ Some (columns, r) → r ≡ token.key (codes "steps") ∷ s
    → converted steps_of (first_data 126 s) ≡ Some (steps, e) → e ≡ token.end_object ∷ []
    → option_and_then any_document_of (only_data old) ≡ Some (record { columns = columns; steps = steps })
document_read columns steps old ts r s e head made named stepped over =
    let there = items_there column_of 125 (length ts) ts r columns made in
    let ds = there.0 in
    let later = converted_from steps_of (first_data 126 s) steps e stepped in
    let from_array = token.begin_array ∷ ts in
    let from_columns = token.key (codes "columns") ∷ from_array in
    let one = put (codes "columns") (array ds) no_members in
    let two = put (codes "steps") later.0 one in
    let array_first = first_array 126 ts r ds (omega arith) there.1 in
    let no_more : Goes 126 two e two [] = no_member 126 two e [] (ap read_key over) in
    let steps_more : Goes 126 one r two [] = member_next 126 one r s e (codes "steps") later.0 two [] (ap read_key named) later.1 no_more in
    let columns_more : Goes 126 no_members from_columns two [] = member_next 126 no_members from_columns from_array r (codes "columns") (array ds) two [] refl array_first steps_more in
    let object_first = first_object 127 from_columns [] two (omega arith) columns_more in
    let told : only_data old ≡ Some (object two) = ap only_data head ∙ whole_data (value 127 (document_head ts)) (object two) object_first in
    ap (option_and_then any_document_of) told ∙ document_there columns steps (each column_of (listed ds)) (steps_of later.0) there.2 later.2
