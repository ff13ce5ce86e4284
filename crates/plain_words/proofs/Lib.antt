pub mod Filled
pub mod Reading
pub mod Writing
pub mod Storing
pub mod Laying
