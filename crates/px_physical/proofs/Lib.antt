pub mod Below
pub mod CellsInOrder
pub mod Inlined
pub mod LiveNames
pub mod OnGroups
pub mod Passing
pub mod Windowed
