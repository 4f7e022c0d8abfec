pub mod Types
pub mod Named
pub mod Walk
pub mod Faults
