pub mod Moved
pub mod Going
