pub mod Given
pub mod Loaded
pub mod Shown
