pub mod Scanning
pub mod Running
