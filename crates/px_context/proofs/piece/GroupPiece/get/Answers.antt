use Rattle.px_value.proofs.FitLaws.{fits_at}
use Rattle.px_context.proofs.piece.GroupPiece.get.Goals as goal

pub returns-in-Items-clause-fits : goal.returns-in-Items-clause-fits
returns-in-Items-clause-fits c =
    let fit = rw c.in-Items.is at c.self.invariant in
    rw (← c.self.view_is, c.in-Items.is, c.get-in-Items.ensures) (fits_at _ _ c.args.index fit)
