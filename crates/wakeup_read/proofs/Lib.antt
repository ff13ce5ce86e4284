pub mod Items
pub mod Reading
pub mod Thinned
pub mod Draining
