use Rattle.std.proofs.Common.{◌≡◌, Ok, length}
use Rattle.px_frame.specs.Reduced.{listed_by}
use Rattle.px_context.specs.Changes.{all_rows}
use Rattle.px_context.proofs.Aggregating.{AreLists-listed, AreLists-whole}
use Rattle.px_context.proofs.context.AggregationContext.lay_out.Goals as goal

pub put_lists-requires : goal.put_lists-requires
put_lists-requires c =
    let was = c.args.self.now in
    let made : listed_by was.values was.groups ≡ Ok c.in_ok-lists-in-Flat.lists = cc (c.in_ok-lists-in-Flat.ensures, c.get_values.ensures, c.kept_groups.ensures) in
    AreLists-listed was.values c.in_ok-lists-in-Flat.lists was.groups made

pub put_lists-requires-in-Rows : goal.put_lists-requires-in-Rows
put_lists-requires-in-Rows c =
    let was = c.args.self.now in
    let made : listed_by was.values (all_rows (length was.groups.groups) (length was.values.slots)) ≡ Ok c.in_ok-lists-in-Rows.lists = cc (c.in_ok-lists-in-Rows.ensures, c.get_values-in-Rows.ensures, c.kept_groups-in-Rows.ensures, c.len.ensures.len) in
    AreLists-whole was.values c.in_ok-lists-in-Rows.lists was.groups made
