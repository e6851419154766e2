-- Columns of a context's cells for the parts of a window.
use Rattle.std.specs.Prelude.{ℕ, List, [], ◌∷◌, ◌++◌, Result, Ok, length}
use Rattle.std.specs.List.{flat_map, zip}
use Rattle.px_column.specs.Prelude.{Kind, Series, Slot}
use Rattle.px_column.specs.Result.{◌>>=◌}
use Rattle.px_value.specs.declared.error.PxError.{PxError}
use Rattle.px_frame.specs.Cell.{Cell, list_of}
use Rattle.px_frame.specs.Consecutive.{unless_long}
use Rattle.px_frame.specs.Groups.{Groups, rows_of}
use Rattle.px_tree.specs.Window.{part_slots, window_cell}
use Rattle.px_tree.specs.declared.window.WindowMapping.{WindowMapping}
use Rattle.px_tree.specs.declared.window.WindowMapping.TheVariants.{GroupsToRows, Join}
use Rattle.px_context.specs.Changes.{finalized}
use Rattle.px_context.specs.Context.{Context, cell_kind, cells_of}

-- what each cell has for the rows of its part, one part after another
abbrev pub laid_slots : List (List ℕ) → List Cell → Result (List Slot) PxError
laid_slots [] cells = Ok []
laid_slots (p ∷ parts) [] = Ok []
laid_slots (p ∷ parts) (c ∷ cells) = do
  xs ← part_slots p c
  others ← laid_slots parts cells
  Ok (xs ++ others)

-- a column with what a cell has for the rows of its part after its own
abbrev pub part_added : Series → List ℕ → Cell → Result Series PxError
part_added s p c = part_slots p c >>= λ xs. Ok (record s { slots = s.slots ++ xs })

-- a column of these values, where there are such
abbrev pub column_with : List ℕ → Kind → Result (List Slot) PxError → Result Series PxError
column_with name kind made = made >>= λ xs. Ok (record { name = name; kind = kind; slots = xs })

-- the values of a window whose parts have these cells
abbrev pub window_slots : WindowMapping → Context → Groups → Result (List Slot) PxError
window_slots mapping c g = window_cell mapping g.height (zip (rows_of g) (cells_of c)) >>= λ cell. Ok (list_of cell)

-- the cells at their parts' rows, under the cells' name and of their type
abbrev pub rows_placed : Context → Groups → Result Series PxError
rows_placed c g = column_with c.values.name (cell_kind c) (window_slots GroupsToRows c g)

-- each cell as a whole at each row of its part, as it stands in the column of a list or a value for each cell
abbrev pub rows_joined : Context → Groups → Result Series PxError
rows_joined c g = finalized c >>= λ s. column_with s.name s.kind (window_slots Join c g)

-- the cells one after another, where they are not too long together
abbrev pub rows_exploded : Context → Result Series PxError
rows_exploded c = unless_long (length (flat_map list_of (cells_of c))) (record { name = c.values.name; kind = cell_kind c; slots = flat_map list_of (cells_of c) })
