pub mod Parts
pub mod Numbers
pub mod Regions
pub mod Slots
pub mod Own
pub mod Advance
pub mod Calls
pub mod Run
