pub mod Deep
pub mod NodeView
pub mod Ordered
pub mod Size
