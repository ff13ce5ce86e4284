pub mod Searching
pub mod Finding
pub mod Greatest
