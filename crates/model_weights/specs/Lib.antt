pub mod Weighed
pub mod Runs
pub mod Machines
