pub mod Cases
pub mod Lent
pub mod Parts
pub mod Written
pub mod Refusals
