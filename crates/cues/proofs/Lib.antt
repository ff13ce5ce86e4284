pub mod Offered
pub mod Asked
pub mod Accepted
