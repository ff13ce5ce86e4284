pub mod Settling
pub mod Handed
pub mod Fitted
