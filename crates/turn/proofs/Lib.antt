pub mod Counted
pub mod Charged
pub mod Bounded
