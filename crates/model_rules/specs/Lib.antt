pub mod Met
pub mod ByScan
pub mod InDemand3
