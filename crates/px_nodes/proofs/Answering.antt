-- What kernels answer, passed on as cells.
use Rattle.std.proofs.Common.{◌≡◌, Bool, true, Result, Ok, Err, IfOk, length, sym, ◌∙◌, subst}
use Rattle.px_column.specs.Prelude.{Answers, AnswersBy, Series}
use Rattle.px_value.specs.declared.error.PxError.{PxError}
use Rattle.px_frame.specs.CellView.{named_cell}
use Rattle.px_frame.specs.Spread.{NamedCell}
use Rattle.px_frame.specs.declared.cell.Cell.{Cell}
use Rattle.px_nodes.specs.Named.{as_cell, as_short_cell}

-- the cell of a column that was made is the one that is expected
pub made_cell : (result : Result Cell PxError) (made : Result Series PxError) (u v : Bool) (e f : Result Series PxError) (x : Result NamedCell PxError) → u ≡ v → e ≡ f → as_cell v f ≡ x
    → Answers made e → ((expected : Result Series PxError) → Answers made expected → AnswersBy named_cell result (as_cell u expected)) → AnswersBy named_cell result x
made_cell result made u v e f x p q m a gives = subst (AnswersBy named_cell result) ((λ i. as_cell (p i) (q i)) ∙ m) (gives e a)

-- and so where it is refused for too many rows
pub made_short_cell : (result : Result Cell PxError) (made : Result Series PxError) (u v : Bool) (e f : Result Series PxError) (x : Result NamedCell PxError) → u ≡ v → e ≡ f → as_short_cell v f ≡ x
    → Answers made e → ((expected : Result Series PxError) → Answers made expected → AnswersBy named_cell result (as_short_cell u expected)) → AnswersBy named_cell result x
made_short_cell result made u v e f x p q m a gives = subst (AnswersBy named_cell result) ((λ i. as_short_cell (p i) (q i)) ∙ m) (gives e a)

-- a column that was made is one row, where the one that is expected is
pub made_row : (made : Result Series PxError) (u v : Bool) (e f : Result Series PxError) → u ≡ v → e ≡ f → Answers made e → ((s : Series) → f ≡ Ok s → v ≡ true → length s.slots ≡ 1)
    → IfOk made (λ s. u ≡ true → length s.slots ≡ 1)
made_row (Ok s) u v e f p q a h = λ t. h s (sym q ∙ a) (sym p ∙ t)
made_row (Err r) u v e f p q a h = tt
