pub mod Bits
pub mod Growing
pub mod Windows
pub mod Counting
pub mod NullLaws
pub mod CopyLaws
