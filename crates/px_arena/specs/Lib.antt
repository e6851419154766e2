pub mod Arena
pub mod Named
