pub mod Leaving
pub mod Scanning
pub mod Choosing
