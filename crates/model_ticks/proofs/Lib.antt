pub mod Carrying
pub mod Measured
pub mod AsBefore
pub mod Conserved
