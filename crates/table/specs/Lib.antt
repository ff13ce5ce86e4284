pub mod Rows
pub mod First
pub mod Keys
pub mod Table
