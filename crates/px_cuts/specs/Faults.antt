-- The faults of an elementwise expression on some rows and others together, and on each.
use Rattle.std.specs.Prelude.{◌≡◌, ◌⊎◌, ℕ, true, false, List, [], ◌∷◌}
use Rattle.std.specs.List.{list_any}
use Rattle.px_value.specs.declared.error.PxError.{PxError}
use Rattle.px_frame.specs.External.{Frame, scope_of, rows_of_frame}
use Rattle.px_tree.specs.Nodes.{leaf_names}
use Rattle.px_tree.specs.Partition.{is_elementwise}
use Rattle.px_tree.specs.Tree.{Tree}
use Rattle.px_tree.specs.Typing.{refusals_of}
use Rattle.px_tree.specs.Value.{faults_on, is_misfit}
use Rattle.px_tree.specs.declared.context.Context.{Context}

-- an elementwise expression that is not refused in a place and names no column of another height beside the frame
pub record IsRowWise (e : Tree) (frame : Frame) (place : Context) : Type 0 where
  pub rows : is_elementwise e (scope_of frame) ≡ true
  pub even : list_any (is_misfit frame) (leaf_names e) ≡ false
  pub accepted : refusals_of e (scope_of frame) place ≡ []

-- no fault on some rows, and none on others
pub record HasNoFaultOnEither (e : Tree) (frame : Frame) (p q : List ℕ) : Type 0 where
  pub first : faults_on e (rows_of_frame frame p) ≡ []
  pub second : faults_on e (rows_of_frame frame q) ≡ []

-- a fault is one of these
abbrev pub IsOneOf : PxError → List PxError → Type 0
IsOneOf e [] = ⊥
IsOneOf e (c ∷ cs) = (e ≡ c) ⊎ IsOneOf e cs
