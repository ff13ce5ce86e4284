pub mod Tests
pub mod Tabulate
pub mod Keep
pub mod Thinned
pub mod Among
