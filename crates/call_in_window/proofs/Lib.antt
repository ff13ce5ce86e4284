pub mod Accepted
pub mod InRange
pub mod Runs
pub mod Windowed
