pub mod Stolen
