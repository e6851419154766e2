pub mod Words
pub mod Lanes
pub mod Places
pub mod Inside
pub mod Integers
