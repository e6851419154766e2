use Rattle.std.proofs.Common.{◌≡◌, ◌∙◌, ap, length}
use Rattle.px_context.specs.IterView.{left_of}
use Rattle.px_context.specs.Part.{parts_in}
use Rattle.px_context.proofs.Counting.{many_parts}
use Rattle.px_context.proofs.context.AggregationContext.pieces.Goals as goal

pub returns-clause-each : goal.returns-clause-each
returns-clause-each c =
    let was = c.args.self.now in
    let cells : left_of c.new.result ≡ parts_in was.layout was.values was.groups = cc (c.new.ensures, c.layout-layout.ensures.layout, c.get_values.ensures, c.kept_groups.ensures) in
    ap length cells ∙ many_parts was c.layout-layout.ensures.context
