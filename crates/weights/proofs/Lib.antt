pub mod Table
pub mod AsBefore
