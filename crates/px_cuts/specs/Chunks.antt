-- The chunks of a frame: the key columns of each, and an expression's values on its parts.
use Rattle.std.specs.Prelude.{ℕ, ◌+◌, List, [], ◌∷◌, ◌++◌, Option, Some, length, map}
use Rattle.std.specs.List.{range_with_len, sum_by}
use Rattle.px_column.specs.Key.{keys_of}
use Rattle.px_column.specs.Option.{◌>>=◌, each}
use Rattle.px_column.specs.Prelude.{Slot, Series}
use Rattle.px_frame.specs.External.{Frame, alone, rows_of_frame}
use Rattle.px_frame.specs.Parts.{parts_of}
use Rattle.px_tree.specs.Grouped.{key_on, key_values, value_on_part}
use Rattle.px_tree.specs.Tree.{Tree}

-- a chunk: the number of its rows, and its key columns
pub record Chunk : Type 0 where
  pub rows : ℕ
  pub by : List Series

-- the keys of a chunk's rows
abbrev pub keys_in : Chunk → List (List Slot)
keys_in c = keys_of c.by c.rows

-- the row numbers of a chunk's parts, counted from its first row
abbrev pub parts_in : Chunk → List (List ℕ)
parts_in c = parts_of c.by c.rows

-- a chunk's key rows: its key columns at the first row of each part
abbrev pub key_rows_in : Chunk → List Series
key_rows_in c = map (key_values (parts_in c)) c.by

-- the chunk of some columns that begins with row a and has n rows
abbrev pub frame_from : List Series → ℕ → ℕ → Frame
frame_from columns a n = rows_of_frame (alone columns) (range_with_len a n)

-- the chunks of these lengths with their key columns, the first of which begins with row a, where each key has a value on each
abbrev pub chunks_on : List Tree → List Series → ℕ → List ℕ → Option (List Chunk)
chunks_on keys columns a [] = Some []
chunks_on keys columns a (n ∷ lengths) = do
  by ← each (key_on (frame_from columns a n)) keys
  chunks ← chunks_on keys columns (a + n) lengths
  Some (record { rows = n; by = by } ∷ chunks)

-- the partials: an expression's values on the parts of each chunk, the first of which begins with row a
abbrev pub partials_on : Tree → List Series → ℕ → List Chunk → Option (List Slot)
partials_on e columns a [] = Some []
partials_on e columns a (c ∷ chunks) = do
  vs ← each (value_on_part (frame_from columns a c.rows) e) (parts_in c)
  ws ← partials_on e columns (a + c.rows) chunks
  Some (vs ++ ws)

-- each column with the rows of another behind its own
abbrev pub appended : List Series → List Series → List Series
appended [] ts = []
appended (s ∷ ss) [] = []
appended (s ∷ ss) (t ∷ ts) = record s { slots = s.slots ++ t.slots } ∷ appended ss ts

-- the key columns of all chunks, one chunk after another
abbrev pub joined_keys : Chunk → List Chunk → List Series
joined_keys c [] = c.by
joined_keys c (d ∷ chunks) = appended c.by (joined_keys d chunks)

-- the key rows of all chunks, one chunk after another
abbrev pub joined_key_rows : Chunk → List Chunk → List Series
joined_key_rows c [] = key_rows_in c
joined_key_rows c (d ∷ chunks) = appended (key_rows_in c) (joined_key_rows d chunks)

-- how many key rows all chunks have
abbrev pub count_key_rows : List Chunk → ℕ
count_key_rows chunks = sum_by (λ (c : Chunk). length (parts_in c)) chunks
