pub mod AnyOrder
pub mod Adding
pub mod Weighed
