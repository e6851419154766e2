-- A document, as a text and as the data that a JSON reader makes of it.
use Rattle.std.specs.Prelude.{ℕ, List, [], ◌∷◌, ◌++◌, codes}
use Rattle.serde_json.specs.Data.{Data, null, number, string, array, object, unsigned, Items, no_items, item, Members, no_members, member}
use Rattle.px_tree.specs.Tree.{len}
use Rattle.px_document.specs.Document.{Doc}
use Rattle.px_document.specs.Form.{single_member}
use Rattle.px_vectors.specs.Worked.{four_rows, sum_column, by_k}

-- an array of some numbers
abbrev pub numbers_data : List ℕ → Items
numbers_data [] = no_items
numbers_data (n ∷ ns) = item (number (unsigned n)) (numbers_data ns)

-- a column of integers
abbrev pub column_data : List ℕ → List ℕ → Data
column_data name values = object (member (codes "name") (string name) (member (codes "type") (string (codes "Int64")) (member (codes "values") (array (numbers_data values)) no_members)))

-- the column of a name
abbrev pub col_data : List ℕ → Data
col_data name = single_member (codes "col") (string name)

-- the sum of x, and the number of rows
abbrev pub aggs_data : Items
aggs_data =
    item (single_member (codes "agg") (array (item (string (codes "Sum")) (item (col_data (codes "x")) no_items))))
    (item (single_member (codes "len") null) no_items)

-- a group step with these members beside its keys
abbrev pub group_data : Members → Data
group_data more = single_member (codes "group") (object (member (codes "aggs") (array aggs_data) (member (codes "chunks") null (member (codes "keys") (array (item (col_data (codes "k")) no_items)) more))))

-- the columns k and x of the four rows
abbrev pub columns_data : Items
columns_data = item (column_data (codes "k") (7 ∷ 9 ∷ 7 ∷ 7 ∷ [])) (item (column_data (codes "x") (0 ∷ 1 ∷ 2 ∷ 3 ∷ [])) no_items)

-- a document with a step, and with members between the columns and the steps
abbrev pub document_data : (Members → Members) → Data → Data
document_data between step = object (member (codes "columns") (array columns_data) (between (member (codes "steps") (array (item step no_items)) no_members)))

-- what the document says
abbrev pub four_rows_doc : List ℕ → Doc
four_rows_doc name = record { columns = four_rows; steps = by_k (sum_column name ∷ len ∷ []) ∷ [] }

-- the document of the frame of four rows and a step, which sums the column of a name, as a text
abbrev pub document_text : List ℕ → List ℕ
document_text name =
    codes "{\"columns\":[{\"name\":\"k\",\"type\":\"Int64\",\"values\":[7,9,7,7]},{\"name\":\"x\",\"type\":\"Int64\",\"values\":[0,1,2,3]}],\"steps\":[{\"group\":{\"keys\":[{\"col\":\"k\"}],\"aggs\":[{\"agg\":[\"Sum\",{\"col\":\""
    ++ (name ++ codes "\"}]},{\"len\":null}],\"chunks\":null}}]}")
