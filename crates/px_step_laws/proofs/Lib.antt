pub mod StepFaults
pub mod OnGroups
