pub mod Named
pub mod Together
