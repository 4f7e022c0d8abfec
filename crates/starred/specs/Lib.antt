pub mod Givens
pub mod Starred
