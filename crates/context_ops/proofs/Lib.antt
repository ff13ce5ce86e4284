pub mod Resolved
pub mod Waking
pub mod Operated
