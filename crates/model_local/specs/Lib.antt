pub mod Names
pub mod Local
pub mod Apart
