pub mod Starred
pub mod Stray
pub mod Replay
pub mod KernelCases
