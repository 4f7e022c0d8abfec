pub mod Firsts
pub mod Fold
pub mod Holders
pub mod Depth
