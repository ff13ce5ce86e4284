pub mod Weights
pub mod Before
