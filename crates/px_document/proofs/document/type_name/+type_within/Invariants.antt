use Rattle.px_document.proofs.document.type_name.+type_within.Given as goal

abbrev pub decreases-type_within : goal.decreases-type_within
decreases-type_within l = l.depth
