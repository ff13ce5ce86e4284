pub mod Checked
pub mod Zeros
pub mod Together
pub mod Risen
pub mod InRange
pub mod Named
