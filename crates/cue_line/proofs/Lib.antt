pub mod Lined
pub mod Passed
