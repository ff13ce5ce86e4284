pub mod Judging
pub mod Gathered
