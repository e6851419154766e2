pub mod Plain
pub mod Causes
pub mod Finds
pub mod Reply
pub mod Meets
pub mod Replies
pub mod Run
