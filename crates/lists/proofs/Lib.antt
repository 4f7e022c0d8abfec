pub mod EqualBits
pub mod Prefix
pub mod Ranks
pub mod Laws
