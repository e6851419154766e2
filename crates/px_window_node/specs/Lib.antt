pub mod Grouped
pub mod Placing
pub mod Inputs
