pub mod Names
pub mod Judged
