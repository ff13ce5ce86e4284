pub mod Turn
pub mod Charged
