pub mod Set
pub mod Members
