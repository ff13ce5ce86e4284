pub mod Soundness
pub mod Refused
pub mod Bounds
