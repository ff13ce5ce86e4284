pub mod Order
pub mod Queue
pub mod Found
pub mod Sorted
