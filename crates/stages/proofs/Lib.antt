pub mod Compose
pub mod Blocks
pub mod Fitting
pub mod Lent
pub mod Reading
pub mod Kept
