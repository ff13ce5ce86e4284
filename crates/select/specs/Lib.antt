pub mod Scanning
pub mod Cleaning
