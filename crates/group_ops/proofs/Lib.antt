pub mod Naming
pub mod Unblocking
pub mod Reaching
pub mod Roomy
