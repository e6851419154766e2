pub mod Reading
pub mod Whole
pub mod Regrouping
pub mod Aggregating
pub mod Laying
pub mod Apart
pub mod Counting
pub mod Sameness
pub mod Renaming
pub mod Picking
mod Windows
