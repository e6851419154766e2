-- A refusal that is told is the first one.
use Rattle.std.proofs.Common.{List, [], ◌∷◌, ◌++◌, Ok, Err}
use Rattle.px_column.specs.Prelude.{Refuses}
use Rattle.px_value.proofs.Refusing.{only_memory, refuses_same}
use Rattle.px_value.specs.declared.error.PxError.{PxError}
use Rattle.px_steps.specs.Meets.{IsFirst, unless_refused}

-- a refusal that is expected is the first one
pub refuses_first : (Y : Type 0) (e first : PxError) (rest : List PxError) → Refuses {Y = Y} e (Err first) → IsFirst e (first ∷ rest)
refuses_first Y e first rest = refuses_same Y (Unit {0}) first e

-- where a value is expected, only memory can be wanting
pub refuses_none : {Y : Type 0} (e : PxError) (y : Y) (refusals : List PxError) → Refuses e (Ok y) → IsFirst e refusals
refuses_none e y refusals = only_memory e y (unless_refused refusals)

-- the first refusal of some is the first of these and further ones
pub IsFirst_append : (e : PxError) (some more : List PxError) → IsFirst e some → IsFirst e (some ++ more)
IsFirst_append e [] more h = refuses_none e tt more h
IsFirst_append e (x ∷ some) more h = h
