pub mod Full
pub mod Fitted
pub mod Choosing
pub mod Scheduling
