pub mod Demand
pub mod Leaves
pub mod Singles
pub mod Apart
