pub mod Counted
pub mod Inline
pub mod Literal
pub mod Live
pub mod Parts
pub mod Planned
pub mod Value
