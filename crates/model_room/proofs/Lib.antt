pub mod Lengths
pub mod Within
pub mod Serving
pub mod Stealing
pub mod Deciding
pub mod Certain
