pub mod Lists
pub mod Adding
pub mod Checked
pub mod Records
pub mod Summing
