pub mod Lent
pub mod Sized
