-- The cell that a piece lends.
use Rattle.std.specs.Prelude.{◌≡◌, ◌^◌, ◌<◌, true, length}
use Rattle.px_column.specs.Kind.{slots_fit}
use Rattle.px_column.specs.KindView.{kind_of}
use Rattle.px_column.specs.Series.{slot_at}
use Rattle.px_frame.specs.Cell.{unit, rows}
use Rattle.px_frame.specs.Frame.{are_below, slots_at}
use Rattle.px_frame.specs.Groups.{is_group}
use Rattle.px_frame.specs.GroupsView.{lent_group}
use Rattle.px_context.specs.Part.{Part, part}
use Rattle.px_context.specs.declared.piece.Source.{Source}
use Rattle.px_context.specs.declared.piece.Source.TheVariants.{Rows, Items, Whole, Single}

-- the cell, with the type of its values
abbrev pub part_of : Source → Part
part_of (Rows c g) = part c.now.kind (rows (slots_at c.now.slots (lent_group g).rows))
part_of (Items t v) = part (kind_of t.now) (rows v.now)
part_of (Whole c) = part c.now.kind (rows c.now.slots)
part_of (Single c row) = part c.now.kind (unit (slot_at c.now.slots row))

-- what is lent is there
abbrev pub IsPiece : Source → Type 0
IsPiece (Rows c g) = (is_group (2 ^ 32) (lent_group g) ≡ true) × (are_below (length c.now.slots) (lent_group g).rows ≡ true)
IsPiece (Items t v) = slots_fit (kind_of t.now) v.now ≡ true
IsPiece (Whole c) = Unit {0}
IsPiece (Single c row) = row < length c.now.slots
