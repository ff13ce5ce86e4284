pub mod Clock
pub mod Paying
pub mod Begun
pub mod Ending
