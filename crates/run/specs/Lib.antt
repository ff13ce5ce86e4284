pub mod Run
pub mod Knowledge
