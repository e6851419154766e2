-- The cells that an iterator has left.
use Rattle.std.specs.Prelude.{Bool, true, false, List, drop, map, replicate}
use Rattle.px_column.specs.Prelude.{Series, slot_at}
use Rattle.px_frame.specs.Cell.{Cell, unit, rows}
use Rattle.px_frame.specs.Frame.{slots_at}
use Rattle.px_context.specs.Context.{item_kind, items_at}
use Rattle.px_context.specs.Part.{Part, part}
use Rattle.px_context.specs.declared.group_iter.FlatIter.{FlatIter}
use Rattle.px_context.specs.declared.group_iter.GroupIter.{GroupIter}
use Rattle.px_context.specs.declared.group_iter.GroupIter.TheVariants.{Literal, Scalars, Lists, Rows}
use Rattle.px_context.specs.declared.group_iter.ListIter.{ListIter}
use Rattle.px_context.specs.declared.group_iter.LitIter.{LitIter}
use Rattle.px_context.specs.declared.group_iter.RowsIter.{RowsIter}

-- the cell of a literal
abbrev pub literal_cell : Bool → Series → Cell
literal_cell true s = unit (slot_at s.slots 0)
literal_cell false s = rows s.slots

-- the literal, for each group that is left
abbrev pub literal_left : LitIter → List Part
literal_left i = map (part i.column.now.kind) (replicate i.left (literal_cell i.is_unit i.column.now))

-- the units from where it stands on
abbrev pub scalars_left : FlatIter → List Part
scalars_left i = map (part i.column.now.kind) (map unit (drop i.at i.column.now.slots))

-- the lists from where it stands on
abbrev pub lists_left : ListIter → List Part
lists_left i = map (part (item_kind i.column.now.kind)) (map (λ x. rows (items_at x)) (drop i.at i.column.now.slots))

-- the values at the rows of the groups from where it stands on
abbrev pub rows_left : RowsIter → List Part
rows_left i = map (part i.column.now.kind) (map (λ p. rows (slots_at i.column.now.slots p.rows)) (drop i.at i.groups.now.groups))

-- the cells that are left
abbrev pub left_of : GroupIter → List Part
left_of (Literal i) = literal_left i
left_of (Scalars i) = scalars_left i
left_of (Lists i) = lists_left i
left_of (Rows i) = rows_left i
