pub mod Pushed
pub mod Drained
