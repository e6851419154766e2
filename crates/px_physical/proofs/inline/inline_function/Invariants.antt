use Rattle.px_physical.proofs.inline.inline_function.Given as goal

abbrev pub ghosts-counted_function : goal.ghosts-counted_function
ghosts-counted_function a = record { name = a.kernels.name; parts = a.kernels.parts }
