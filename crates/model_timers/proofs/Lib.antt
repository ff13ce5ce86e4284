pub mod Untouched
pub mod Served
pub mod Calls
pub mod Newest
pub mod Lost
pub mod TimerRoom
pub mod Source
pub mod AsBefore
