pub mod PlainRows
pub mod PlainColumns
pub mod PlainKeys
pub mod Told
pub mod PlainParts
pub mod PlainValues
pub mod PlainAnswer
