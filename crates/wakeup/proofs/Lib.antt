pub mod Pacing
pub mod Listed
pub mod Entering
pub mod Judged
pub mod Serving
pub mod BoundedOnce
pub mod Bounded
