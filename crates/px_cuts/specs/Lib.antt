pub mod Cut
pub mod Chunks
pub mod Whole
pub mod Merge
pub mod Faults
pub mod Sizes
