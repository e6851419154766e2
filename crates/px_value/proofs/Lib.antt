pub mod EachLaws
pub mod FitLaws
pub mod LengthLaws
pub mod OrderRows
pub mod Refusing
