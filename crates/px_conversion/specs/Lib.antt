pub mod Depth
pub mod Noted
