pub mod Table
pub mod Superseding
