pub mod Advanced
pub mod Requeued
pub mod Handed
pub mod Bounded
pub mod Settled
