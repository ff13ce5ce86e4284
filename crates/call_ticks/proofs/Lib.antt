pub mod Refused
pub mod Conserved
pub mod Charged
