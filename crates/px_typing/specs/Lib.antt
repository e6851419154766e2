pub mod Facts
pub mod FactsView
pub mod Places
