pub mod Lane
pub mod Made
pub mod Alike
pub mod One
pub mod Operator
pub mod Casting
