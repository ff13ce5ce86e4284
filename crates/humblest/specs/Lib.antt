pub mod Humblest
