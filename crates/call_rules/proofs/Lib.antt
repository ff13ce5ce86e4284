pub mod Telling
pub mod Told
