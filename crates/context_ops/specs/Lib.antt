pub mod Wakeup
pub mod Operations
pub mod Named
pub mod Reply
