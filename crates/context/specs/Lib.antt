pub mod Status
pub mod Words
pub mod With
pub mod Block
pub mod Key
