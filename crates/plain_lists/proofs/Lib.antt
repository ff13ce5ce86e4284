pub mod Arrays
pub mod Filling
pub mod Folds
pub mod Keeping
pub mod Listing
pub mod Put
