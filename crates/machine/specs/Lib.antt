pub mod Machine
pub mod Encode
pub mod Shape
pub mod LookUp
pub mod Outcome
