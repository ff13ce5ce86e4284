pub mod Places
pub mod Cpu
pub mod Words
pub mod With
pub mod Lists
pub mod Layout
