use Rattle.px_physical.proofs.inline.inline_cast.Given as goal

abbrev pub ghosts-counted_cast : goal.ghosts-counted_cast
ghosts-counted_cast a = record { name = a.kernels.name; parts = a.kernels.parts }
