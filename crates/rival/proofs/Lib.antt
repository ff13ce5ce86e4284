pub mod Choices
pub mod Turning
pub mod Telling
pub mod Entering
pub mod Folding
pub mod Strategies
pub mod Cases
