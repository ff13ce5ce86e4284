pub mod Values
pub mod Holding
