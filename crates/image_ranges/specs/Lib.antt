pub mod Ranges
pub mod Singles
