pub mod Stating
pub mod Parts
pub mod Fitting
pub mod Tracking
