pub mod Charged
pub mod Bounds
