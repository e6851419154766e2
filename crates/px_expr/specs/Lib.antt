pub mod Plan
pub use Rattle.px_physical.specs.NodeView
