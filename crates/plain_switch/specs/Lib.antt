pub mod Switched
pub mod Direct
