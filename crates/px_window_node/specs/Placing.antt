-- The column of a window, from the cells of its function.
use Rattle.std.specs.Prelude.{Result}
use Rattle.px_column.specs.Prelude.{Kind, Series}
use Rattle.px_value.specs.declared.error.PxError.{PxError}
use Rattle.px_frame.specs.Groups.{Groups}
use Rattle.px_tree.specs.declared.window.WindowMapping.{WindowMapping}
use Rattle.px_tree.specs.declared.window.WindowMapping.TheVariants.{GroupsToRows, Join, Explode}
use Rattle.px_context.specs.Changes.{laid_kind}
use Rattle.px_context.specs.Context.{Context, cell_kind}
use Rattle.px_window.specs.Placed.{rows_exploded, rows_joined, rows_placed}

-- the cells at their groups' rows, as a whole at each of these, or one after another
abbrev pub placed_by : WindowMapping → Context → Groups → Result Series PxError
placed_by GroupsToRows c g = rows_placed c g
placed_by Join c g = rows_joined c g
placed_by Explode c g = rows_exploded c

-- the type of that column: of whole cells, which may be lists, else of their values
abbrev pub placed_kind : WindowMapping → Context → Kind
placed_kind Join c = laid_kind c
placed_kind _ c = cell_kind c
