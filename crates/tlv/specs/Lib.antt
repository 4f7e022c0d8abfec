pub mod First
pub mod Fold
pub mod Depth
