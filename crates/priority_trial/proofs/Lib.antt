pub mod Changed
pub mod Trying
