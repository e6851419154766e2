use Rattle.px_program.proofs.main.Given as goal

abbrev pub ghosts-run_words-L-Ledger : goal.ghosts-run_words-L-Ledger
ghosts-run_words-L-Ledger a = record { name = a.kernels.name; parts = a.kernels.parts }

abbrev pub ghosts-run_words-M-Ledger : goal.ghosts-run_words-M-Ledger
ghosts-run_words-M-Ledger a = record { name = a.groupings.name; parts = a.groupings.parts }
