pub mod Cards
pub mod Outcome
pub mod Calls
pub mod Parts
pub mod Start
pub mod Figures
