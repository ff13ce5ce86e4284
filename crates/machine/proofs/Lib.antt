pub mod Places
pub mod Steps
pub mod Decoded
pub mod Encoded
pub mod LookUps
pub mod Looked
