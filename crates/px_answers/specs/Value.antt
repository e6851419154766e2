-- What evaluating a node answers: the value of its expression as a column, or a cause for there being none.
use Rattle.std.specs.Prelude.{◌≡◌, ◌⊎◌, ◌^◌, ◌≤◌, Bool, true, not, ◌&&◌, List, [], ◌∷◌, ◌++◌, Option, Some, Result, Err, length, is_none, ok_or, if◌then◌else◌}
use Rattle.std.specs.List.{flat_map, list_any}
use Rattle.px_column.specs.Option.{◌>>=◌}
use Rattle.px_column.specs.Prelude.{Series}
use Rattle.px_value.specs.declared.error.PxError.{PxError}
use Rattle.px_value.specs.declared.error.PxError.TheVariants.{ColumnNotFound, ComputeError, ShapeMismatch, OutOfMemory}
use Rattle.px_value.specs.declared.error.ComputeWhy.TheVariants.{TooLong}
use Rattle.px_frame.specs.External.{Frame, scope_of}
use Rattle.px_frame.specs.Spread.{NamedCell, column_of_cell}
use Rattle.px_frame.specs.Cell.{cell_of, is_unit_cell}
use Rattle.px_tree.specs.Shape.{is_unit, name_of}
use Rattle.px_tree.specs.Size.{size_on, sizes_on}
use Rattle.px_tree.specs.Tree.{Tree}
use Rattle.px_tree.specs.Typing.{kind_in, refusals_of, refused_where}
use Rattle.px_tree.specs.Value.{value_on, named, faults_on, is_misfit}
use Rattle.px_tree.specs.declared.context.Context.TheVariants.{Default}
use Rattle.px_answers.specs.Parts.{plan_trees}
use Rattle.px_answers.specs.Planned.{Planned, PlannedColumn, found_by, is_added}

-- an expression's value on a frame as a column
abbrev pub column_on : Tree → Frame → Option Series
column_on e frame = value_on e frame >>= named e frame >>= λ c. Some (column_of_cell c)

-- a column node that finds no column is refused with its name
abbrev pub unfound_refusal : Frame → PlannedColumn → List PxError
unfound_refusal frame c = refused_where (is_none (found_by c frame)) (ColumnNotFound c.name)

-- a column node finds a column beside the frame that has not the frame's height; a reserved name that its schema lacks is sought
-- among the frame's own columns alone
abbrev pub finds_misfit : Frame → PlannedColumn → Bool
finds_misfit frame c = not (is_added c) && is_misfit frame c.name

-- the column of a column node on a frame, or why it has none
abbrev pub column_of : PlannedColumn → Frame → Result Series PxError
column_of c frame = if finds_misfit frame c then Err ShapeMismatch else ok_or (found_by c frame) (ColumnNotFound c.name)

-- one of an expression's column nodes finds such a column
abbrev pub has_misfit_column : Planned → Frame → Bool
has_misfit_column p frame = list_any (finds_misfit frame) p.columns

-- why an expression has no value on a frame: it is refused there, a column node finds no column, or one that has not the
-- frame's height, or there is a fault of a value
abbrev pub causes_on : Planned → Frame → List PxError
causes_on p frame =
    refusals_of p.tree (scope_of frame) Default
    ++ flat_map (unfound_refusal frame) p.columns
    ++ refused_where (has_misfit_column p frame) ShapeMismatch
    ++ faults_on p.tree frame

-- a column is the value of an expression on a frame: nothing is there that is refused or a fault, it has the expression's
-- name and type, and its rows are the value, of which a unit has one
pub record IsValue (p : Planned) (frame : Frame) (s : Series) : Type 0 where
  pub sound : causes_on p frame ≡ []
  pub name : s.name ≡ name_of p.tree
  pub kind : kind_in p.tree (scope_of frame) ≡ Some s.kind
  pub value : value_on p.tree frame ≡ Some (cell_of (is_unit p.tree) s.slots)
  pub unit : is_unit p.tree ≡ true → length s.slots ≡ 1

-- it is one of these
abbrev pub IsOneOf : PxError → List PxError → Type 0
IsOneOf e [] = ⊥
IsOneOf e (c ∷ cs) = (e ≡ c) ⊎ IsOneOf e cs

-- why there may be no answer: memory was wanting, the expression or one in it has 2^32 values or more, or this is one of the
-- causes
abbrev pub IsCause : PxError → Planned → Frame → Type 0
IsCause OutOfMemory p frame = Unit {0}
IsCause (ComputeError TooLong) p frame = 2 ^ 32 ≤ size_on p.tree (frame ∷ [])
IsCause e p frame = IsOneOf e (causes_on p frame)

-- a cell is the value of an expression on a frame: nothing is there that is refused or a fault, and it has the expression's
-- name, type and shape
pub record IsCellOf (p : Planned) (frame : Frame) (c : NamedCell) : Type 0 where
  pub sound : causes_on p frame ≡ []
  pub name : c.name ≡ name_of p.tree
  pub kind : kind_in p.tree (scope_of frame) ≡ Some c.kind
  pub value : value_on p.tree frame ≡ Some c.cell
  pub shape : is_unit_cell c.cell ≡ is_unit p.tree

-- some cells are the values of some expressions, in their order
abbrev pub AreCellsOf : List Planned → Frame → List NamedCell → Type 0
AreCellsOf [] frame [] = Unit {0}
AreCellsOf (p ∷ ps) frame (c ∷ cs) = IsCellOf p frame c × AreCellsOf ps frame cs
AreCellsOf _ frame _ = ⊥

-- why some expressions may have no values: it is why one of them has none
abbrev pub IsCauseOfAny : PxError → List Planned → Frame → Type 0
IsCauseOfAny OutOfMemory ps frame = Unit {0}
IsCauseOfAny (ComputeError TooLong) ps frame = 2 ^ 32 ≤ sizes_on (plan_trees ps) (frame ∷ [])
IsCauseOfAny e ps frame = IsOneOf e (flat_map (λ p. causes_on p frame) ps)
