pub mod Works
pub mod Ready
