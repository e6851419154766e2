pub mod HasRead
pub mod Taking
