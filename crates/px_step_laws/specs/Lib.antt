pub mod Faults
pub mod OnGroups
