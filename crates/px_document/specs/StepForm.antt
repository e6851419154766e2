-- What JSON data says as steps and as a document, in every form.
use Rattle.std.specs.Prelude.{ℕ, ◌^◌, nat_lt, nat_le, List, [], ◌∷◌, length, Option, Some, None, codes, is_some, option_map, if◌then◌else◌}
use Rattle.std.specs.Option.{option_or}
use Rattle.serde_json.specs.Data.{Data}
use Rattle.serde_json.specs.Find.{as_null, as_number, as_u64}
use Rattle.px_column.specs.Option.{◌>>=◌, each}
use Rattle.px_document.specs.Document.{Doc, column_of}
use Rattle.px_document.specs.ExprForm.{expr_of}
use Rattle.px_document.specs.Form.{items, fields, field}
use Rattle.px_tree.specs.Step.{PlainStep, select, filter, group}

-- a whole number below 2^32
abbrev pub chunk_length_of : Data → Option ℕ
chunk_length_of d = as_number d >>= as_u64 >>= λ n. if nat_lt n (2 ^ 32) then Some n else None

-- null, or the lengths of the chunks
abbrev pub chunks_of : Data → Option (Option (List ℕ))
chunks_of d = if is_some (as_null d) then Some None else option_map Some (items d >>= each chunk_length_of)

abbrev pub group_parts : List Data → Option PlainStep
group_parts (k ∷ a ∷ c ∷ []) = do
  keys ← items k >>= each expr_of
  aggs ← items a >>= each expr_of
  chunks ← chunks_of c
  Some (group keys aggs chunks)
group_parts _ = None

-- {"select": [e..]}, {"filter": e} or {"group": {"keys": [e..], "aggs": [e..], "chunks": c}}
unfoldable pub any_step_of : Data → Option PlainStep
any_step_of d =
    option_or (option_map select (field (codes "select") d >>= items >>= each expr_of))
    (option_or (option_map filter (field (codes "filter") d >>= expr_of))
    (field (codes "group") d >>= fields (codes "keys" ∷ codes "aggs" ∷ codes "chunks" ∷ []) >>= group_parts))

-- at most 64 steps
abbrev pub any_steps_of : List Data → Option (List PlainStep)
any_steps_of ds = if nat_le (length ds) 64 then each any_step_of ds else None

-- an array of steps
abbrev pub steps_of : Data → Option (List PlainStep)
steps_of d = items d >>= any_steps_of

abbrev pub any_document_parts : List Data → Option Doc
any_document_parts (c ∷ s ∷ []) = do
  columns ← items c >>= each column_of
  steps ← steps_of s
  Some (record { columns = columns; steps = steps })
any_document_parts _ = None

-- {"columns": [..], "steps": [..]}, with steps of every kind over expressions of every kind
abbrev pub any_document_of : Data → Option Doc
any_document_of d = fields (codes "columns" ∷ codes "steps" ∷ []) d >>= any_document_parts
