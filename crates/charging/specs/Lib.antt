pub mod Charge
