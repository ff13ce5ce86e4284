pub mod CallInWindow
pub mod Runs
