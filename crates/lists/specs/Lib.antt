pub mod Prefix
pub mod EqualBits
pub mod Lists
pub mod Ranks
pub mod Laws
