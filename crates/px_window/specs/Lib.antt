pub mod Flags
pub mod State
pub mod StateLends
pub mod Key
pub mod Places
pub mod Placed
pub mod KeyDecided
pub mod Cache
