pub mod Candidate
pub mod Words
