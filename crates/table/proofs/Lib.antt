pub mod Stepping
pub mod Tables
pub mod Search
pub mod Places
pub mod Rising
pub mod InBlock
pub mod Searched
pub mod Sorted
