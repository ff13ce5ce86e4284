pub mod Structure
pub mod Rises
