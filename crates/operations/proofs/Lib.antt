pub mod Dispatched
pub mod Kept
