use Rattle.px_window_node.proofs.PlacedColumns.{placed_short}
use Rattle.px_window_node.proofs.place.place_window.Goals as goal

pub returns-in_ok-map-in-GroupsToRows-clause-long :
    goal.returns-in_ok-map-in-GroupsToRows-clause-long
returns-in_ok-map-in-GroupsToRows-clause-long c = placed_short c.args.ac.now c.args.parts.now c.place_rows.result c.place_rows.ensures.answer
