pub mod KindLaws
pub mod Scopes
pub mod Shapes
