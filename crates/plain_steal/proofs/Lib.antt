pub mod Robbed
pub mod Round
pub mod Stolen
pub mod Fitted
pub mod Bounded
