pub mod Strayed
pub mod Worked
pub mod Doubled
