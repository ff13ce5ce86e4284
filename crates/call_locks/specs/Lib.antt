pub mod Locks
pub mod Needed
pub mod Differ
