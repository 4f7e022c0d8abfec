pub mod Joins
pub mod Asks
