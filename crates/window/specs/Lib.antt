pub mod Window
pub mod Shares
pub mod Passes
