pub mod Externals
pub mod Fields
