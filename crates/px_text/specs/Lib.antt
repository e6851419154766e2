pub mod Text
pub mod Label
