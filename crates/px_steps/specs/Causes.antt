-- Steps that are run one after another, and why there may be no answer.
use Rattle.std.specs.Prelude.{◌≡◌, ◌⊎◌, ◌^◌, ◌<◌, ◌≤◌, List, [], ◌∷◌, Some, None, Result, Ok, Err}
use Rattle.px_column.specs.Prelude.{Series}
use Rattle.px_value.specs.declared.error.PxError.{PxError}
use Rattle.px_value.specs.declared.error.PxError.TheVariants.{ComputeError, OutOfMemory}
use Rattle.px_value.specs.declared.error.ComputeWhy.TheVariants.{TooLong}
use Rattle.px_answers.specs.Value.{IsOneOf}
use Rattle.px_frame.specs.External.{Frame, height}
use Rattle.px_steps.specs.Plain.{first_refusal, step_faults, step_on, step_size, with_columns}
use Rattle.px_tree.specs.Step.{PlainStep}

-- a step that is run on a frame: it is not refused, has no fault, and makes the next frame, of fewer than 2^32 rows
pub record IsRun (s : PlainStep) (frame next : Frame) : Type 0 where
  pub accepted : first_refusal s frame ≡ None
  pub sound : step_faults s frame ≡ []
  pub made : step_on s frame ≡ Some next
  pub short : height next < 2 ^ 32

-- steps that are run one after another, from the first frame to the last
abbrev pub AreRun : List PlainStep → Frame → Frame → Type 0
AreRun [] frame last = frame ≡ last
AreRun (s ∷ steps) frame last = (next : Frame) × (IsRun s frame next × AreRun steps next last)

-- why a step has no answer: it is its first refusal; or it is not refused, and this is one of its faults, or it has too many
-- values
abbrev pub IsStepCause : PxError → PlainStep → Frame → Type 0
IsStepCause e s frame =
    (first_refusal s frame ≡ Some e)
    ⊎ ((first_refusal s frame ≡ None) × (IsOneOf e (step_faults s frame) ⊎ ((e ≡ ComputeError TooLong) × (2 ^ 32 ≤ step_size s frame))))

-- such a cause stands at a step that is reached: at the first one, or that one is run and it stands in the others
abbrev pub StandsIn : PxError → List PlainStep → Frame → Type 0
StandsIn e [] frame = ⊥
StandsIn e (s ∷ steps) frame =
    IsStepCause e s frame ⊎ ((next : Frame) × (IsRun s frame next × StandsIn e steps next))

-- why steps have no answer: memory was wanting, or the cause stands at a step
abbrev pub IsCauseIn : PxError → List PlainStep → Frame → Type 0
IsCauseIn e steps frame = (e ≡ OutOfMemory) ⊎ StandsIn e steps frame

-- what a step answers: the columns of the frame that it makes, where it is run; or memory was wanting, or there is a cause
abbrev pub StepAnswers : Result (List Series) PxError → PlainStep → Frame → Type 0
StepAnswers (Ok made) s frame = IsRun s frame (with_columns frame made)
StepAnswers (Err e) s frame = (e ≡ OutOfMemory) ⊎ IsStepCause e s frame

-- what steps answer: the columns of the frame that they make, where they are run; or a cause
abbrev pub StepsAnswer : Result (List Series) PxError → List PlainStep → Frame → Type 0
StepsAnswer (Ok made) steps frame = AreRun steps frame (with_columns frame made)
StepsAnswer (Err e) steps frame = IsCauseIn e steps frame
