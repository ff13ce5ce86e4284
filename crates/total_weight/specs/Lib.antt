pub mod TotalWeight
pub mod Words
