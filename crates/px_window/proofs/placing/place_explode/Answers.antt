use Rattle.std.proofs.Common.{arith, length}
use Rattle.px_context.specs.Context.{cells_of}
use Rattle.px_window.proofs.Exploding.{counted, exploded_cells}
use Rattle.px_window.proofs.placing.place_explode.Goals as goal

pub returns-then-total-clause-long : goal.returns-then-total-clause-long
returns-then-total-clause-long c = λ _. omega (arith, counted (cells_of c.args.ac.now), c.total_count-total.ensures.total)

pub returns-clause-cells : goal.returns-clause-cells
returns-clause-cells c = exploded_cells (cells_of c.args.ac.now) (length c.args.ac.now.groups.groups) c.in_ok-rows.rows c.join_cells.result c.total_count-total.ensures.many c.join_cells.ensures
