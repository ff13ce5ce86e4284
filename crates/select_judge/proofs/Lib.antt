pub mod Judging
pub mod Choosing
pub mod Ruling
