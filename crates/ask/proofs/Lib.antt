pub mod Committed
pub mod Committing
pub mod Inside
pub mod Own
