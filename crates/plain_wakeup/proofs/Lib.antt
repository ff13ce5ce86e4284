pub mod Turns
pub mod Drained
pub mod Serving
pub mod Ready
pub mod Going
pub mod Bounded
