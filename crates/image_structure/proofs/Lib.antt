pub mod Structured
pub mod Marks
