pub mod Members
pub mod Bits
