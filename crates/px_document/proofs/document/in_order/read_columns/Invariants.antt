use Rattle.std.proofs.Common.{length}
use Rattle.px_document.specs.Document.{column_of}
use Rattle.px_document.proofs.Tokens.{Follows}
use Rattle.px_document.proofs.document.in_order.read_columns.Given as goal

-- the columns so far, and those that are left, are all
abbrev pub invariant-loop-alloc : goal.invariant-loop-alloc
invariant-loop-alloc l = Follows column_of 125 l.columns.items l.initial.reader l.reader

abbrev pub decreases-loop-alloc : goal.decreases-loop-alloc
decreases-loop-alloc l = length l.reader
