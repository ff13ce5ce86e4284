pub mod Game
pub mod Reached
pub mod Sequences
