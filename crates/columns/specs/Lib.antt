pub mod Common
pub mod Columns
pub mod Laws
pub mod Blocks
pub mod Stored
