pub mod Orders
pub mod Ordered
