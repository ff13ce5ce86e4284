pub mod Group
pub mod Room
