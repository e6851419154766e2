use Rattle.px_batch.proofs.write_reply.Given as goal

abbrev pub ghosts-run_document-L-Ledger : goal.ghosts-run_document-L-Ledger
ghosts-run_document-L-Ledger g a = record { name = a.kernels.name; parts = a.kernels.parts }

abbrev pub ghosts-run_document-M-Ledger : goal.ghosts-run_document-M-Ledger
ghosts-run_document-M-Ledger g a = record { name = a.groupings.name; parts = a.groupings.parts }
