pub mod Worked
pub mod WorkedDocument
pub mod PlainStep
pub mod Examples
