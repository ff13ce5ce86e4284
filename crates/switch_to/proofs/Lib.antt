pub mod Recorded
pub mod Switching
pub mod Directly
pub mod Bounded
