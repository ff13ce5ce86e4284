pub mod Part
pub mod Decides
pub mod Ticked
pub mod Begun
pub mod Named
pub mod Switched
pub mod Stolen
