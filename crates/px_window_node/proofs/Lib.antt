pub mod Grouping
pub mod PlacedColumns
pub mod Apart
pub mod Refused
pub mod Valued
pub mod Counted
