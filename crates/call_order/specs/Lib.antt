pub mod Order
pub mod Needed
pub mod Machines
pub mod Checked
pub mod Runs
pub mod Turns
pub mod Elsewhere
