-- The faults of expressions whose types are accepted.
use Rattle.std.specs.Prelude.{◌≡◌, Bool, true, false, []}
use Rattle.std.specs.List.{list_all}
use Rattle.px_value.specs.declared.error.PxError.{PxError}
use Rattle.px_value.specs.declared.error.PxError.TheVariants.{InvalidOperation, ComputeError, OutOfBounds, ShapeMismatch}
use Rattle.px_value.specs.declared.error.InvalidWhy.TheVariants.{CastLost}
use Rattle.px_value.specs.declared.error.ComputeWhy.TheVariants.{SliceArgument, NullIndex, RangeBound, WindowLength}
use Rattle.px_frame.specs.External.{Frame, scope_of}
use Rattle.px_tree.specs.Tree.{Tree}
use Rattle.px_tree.specs.Typing.{refusals_of}
use Rattle.px_tree.specs.Value.{faults_on}
use Rattle.px_tree.specs.declared.context.Context.{Context}
use Rattle.px_laws.specs.Fitting.{has_fitting_columns, has_fitting_literals}

-- a fault of values, or of how many there are: a cast loses a value, a slice's argument or a gather's one index is none, a
-- bound of a range does not lie in its type, a window's list is not as long as its part, an index names no row, or lists
-- differ in length
abbrev pub is_value_fault : PxError → Bool
is_value_fault (InvalidOperation CastLost) = true
is_value_fault (ComputeError SliceArgument) = true
is_value_fault (ComputeError NullIndex) = true
is_value_fault (ComputeError RangeBound) = true
is_value_fault (ComputeError WindowLength) = true
is_value_fault OutOfBounds = true
is_value_fault ShapeMismatch = true
is_value_fault _ = false

-- an expression has such faults alone on each frame whose columns fit their types, where it is not refused over the frame's
-- names and types, in whichever place
abbrev pub FailsByValue : Tree → Type 0
FailsByValue e =
    (frame : Frame) (place : Context) → has_fitting_columns frame ≡ true → has_fitting_literals e ≡ true
    → refusals_of e (scope_of frame) place ≡ [] → list_all is_value_fault (faults_on e frame) ≡ true
