pub mod Visiting
pub mod Visited
pub mod Walking
pub mod Cleaning
pub mod Selecting
pub mod ScanBounded
pub mod Bounded
