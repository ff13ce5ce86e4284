pub mod Reading
pub mod Apart
