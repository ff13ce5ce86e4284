pub mod Switching
pub mod Directly
