pub mod States
pub mod Fits
