pub mod Looking
pub mod Within
