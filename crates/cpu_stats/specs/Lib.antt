pub mod State
pub mod Words
pub mod With
pub mod Counted
