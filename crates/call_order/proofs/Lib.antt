pub mod Switched
pub mod Either
pub mod Needed
pub mod Checked
pub mod Runs
pub mod AnyOrder
pub mod Turns
pub mod Elsewhere
