pub mod Add
pub mod Due
