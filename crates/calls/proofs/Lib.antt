pub mod Accepts
pub mod Called
