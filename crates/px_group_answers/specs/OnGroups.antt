-- What evaluating a node on groups answers: a context with a cell for each group, the value on the frame of that group's rows,
-- or a cause for there being none.
use Rattle.std.specs.Prelude.{◌≡◌, ◌⊎◌, ◌^◌, ◌≤◌, true, List, [], ◌∷◌, ◌++◌, Some, length, map}
use Rattle.std.specs.List.{flat_map}
use Rattle.px_value.specs.declared.error.PxError.{PxError}
use Rattle.px_value.specs.declared.error.PxError.TheVariants.{ComputeError, ShapeMismatch, OutOfMemory}
use Rattle.px_value.specs.declared.error.ComputeWhy.TheVariants.{TooLong}
use Rattle.px_frame.specs.External.{Frame, rows_of_frame, scope_of}
use Rattle.px_frame.specs.Groups.{Groups, rows_of}
use Rattle.px_frame.specs.Spread.{NamedCell, column_of_cell}
use Rattle.px_tree.specs.Cost.{is_flat_rows}
use Rattle.px_tree.specs.Shape.{is_unit, name_of}
use Rattle.px_tree.specs.Size.{size_on, sizes_on}
use Rattle.px_tree.specs.Typing.{kind_in, refusals_of, refused_where}
use Rattle.px_tree.specs.Value.{faults_on}
use Rattle.px_tree.specs.declared.context.Context.TheVariants.{Aggregation}
use Rattle.px_context.specs.Context.{Context, cell_kind, has_units}
use Rattle.px_lanes.specs.Lane.{has_lane}
use Rattle.px_lanes.specs.Made.{named_cells}
use Rattle.px_answers.specs.Parts.{plan_trees}
use Rattle.px_answers.specs.Planned.{Planned}
use Rattle.px_answers.specs.Value.{IsCellOf, IsOneOf, IsValue, has_misfit_column, unfound_refusal}

-- the frame of each group's rows
abbrev pub group_frames : Frame → Groups → List Frame
group_frames frame g = map (rows_of_frame frame) (rows_of g)

-- why an expression has no value on groups, whatever these are: it is refused there, or a column node finds no column, or one
-- that has not the frame's height
abbrev pub group_refusals : Planned → Frame → List PxError
group_refusals p frame =
    refusals_of p.tree (scope_of frame) Aggregation
    ++ flat_map (unfound_refusal frame) p.columns
    ++ refused_where (has_misfit_column p frame) ShapeMismatch

-- one of these, or a fault of a value on the frame of some group
abbrev pub group_causes : Planned → Frame → Groups → List PxError
group_causes p frame g = group_refusals p frame ++ flat_map (faults_on p.tree) (group_frames frame g)

-- each cell is the value of an expression on its frame
abbrev pub AreCellsOn : Planned → List Frame → List NamedCell → Type 0
AreCellsOn p [] [] = Unit {0}
AreCellsOn p (f ∷ fs) (c ∷ cs) = IsCellOf p f c × AreCellsOn p fs cs
AreCellsOn p _ _ = ⊥

-- each cell, as a column, is that value
abbrev pub AreValuesOn : Planned → List Frame → List NamedCell → Type 0
AreValuesOn p [] [] = Unit {0}
AreValuesOn p (f ∷ fs) (c ∷ cs) = IsValue p f (column_of_cell c) × AreValuesOn p fs cs
AreValuesOn p _ _ = ⊥

-- a context is what an expression has on groups: nothing is refused, it has the expression's name, type and shape, also with no
-- group, and its cells are the values on the frames of the groups' rows. Where it is untouched, it has the groups that were
-- handed in; where the expression works on flat rows, it is untouched or a unit literal
pub record IsContextOf (p : Planned) (frame : Frame) (g : Groups) (c : Context) : Type 0 where
  pub sound : group_refusals p frame ≡ []
  pub name : c.values.name ≡ name_of p.tree
  pub kind : kind_in p.tree (scope_of frame) ≡ Some (cell_kind c)
  pub cells : AreCellsOn p (group_frames frame g) (named_cells c)
  pub shape : has_units c.layout ≡ is_unit p.tree
  pub count : length c.groups.groups ≡ length g.groups
  pub kept : c.untouched ≡ true → c.groups ≡ g
  pub lane : is_flat_rows p.tree ≡ true → has_lane c ≡ true

-- why there may be no context: memory was wanting, the expression or one in it has 2^32 values or more over all groups together,
-- or this is one of the causes
abbrev pub IsGroupCause : PxError → Planned → Frame → Groups → Type 0
IsGroupCause OutOfMemory p frame g = Unit {0}
IsGroupCause (ComputeError TooLong) p frame g = 2 ^ 32 ≤ size_on p.tree (group_frames frame g)
IsGroupCause e p frame g = IsOneOf e (group_causes p frame g)

-- some contexts are what some expressions have on groups, in their order
abbrev pub AreContextsOf : List Planned → Frame → Groups → List Context → Type 0
AreContextsOf [] frame g [] = Unit {0}
AreContextsOf (p ∷ ps) frame g (c ∷ cs) = IsContextOf p frame g c × AreContextsOf ps frame g cs
AreContextsOf _ frame g _ = ⊥

-- why some expressions may have no contexts: it is why one of them has none
abbrev pub IsGroupCauseOfAny : PxError → List Planned → Frame → Groups → Type 0
IsGroupCauseOfAny OutOfMemory ps frame g = Unit {0}
IsGroupCauseOfAny (ComputeError TooLong) ps frame g = 2 ^ 32 ≤ sizes_on (plan_trees ps) (group_frames frame g)
IsGroupCauseOfAny e ps frame g = IsOneOf e (flat_map (λ p. group_causes p frame g) ps)
