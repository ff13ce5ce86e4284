pub mod Stealing
