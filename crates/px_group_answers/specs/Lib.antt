pub mod Accepts
pub mod Counted
pub mod Leaf
pub mod OnGroups
