pub mod Beside
pub mod Merge
pub mod Fitting
pub mod Faults
pub mod Order
