pub mod Came
pub mod Runs
