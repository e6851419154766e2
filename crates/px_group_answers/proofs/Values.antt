-- The cells of an expression on groups are its values on the frames of the groups' rows.
use Rattle.std.proofs.Common.{List, [], ◌∷◌}
use Rattle.px_frame.specs.External.{Frame}
use Rattle.px_frame.specs.Groups.{Groups}
use Rattle.px_frame.specs.Spread.{NamedCell}
use Rattle.px_context.specs.Context.{Context}
use Rattle.px_lanes.specs.Made.{named_cells}
use Rattle.px_answers.proofs.Cells.{cell_is_value}
use Rattle.px_answers.specs.Planned.{Planned}
use Rattle.px_group_answers.specs.OnGroups.{AreCellsOn, AreValuesOn, IsContextOf, group_frames}

each_is_value : (p : Planned) (fs : List Frame) (cs : List NamedCell) → AreCellsOn p fs cs → AreValuesOn p fs cs
each_is_value p [] [] h = tt
each_is_value p [] (c ∷ cs) h = absurd h
each_is_value p (f ∷ fs) [] h = absurd h
each_is_value p (f ∷ fs) (c ∷ cs) h = (cell_is_value p f c h.0, each_is_value p fs cs h.1)

-- each cell is what a select of the expression has on the group's rows alone
pub cells_are_values : (p : Planned) (frame : Frame) (g : Groups) (c : Context) → IsContextOf p frame g c → AreValuesOn p (group_frames frame g) (named_cells c)
cells_are_values p frame g c h = each_is_value p (group_frames frame g) (named_cells c) h.cells
