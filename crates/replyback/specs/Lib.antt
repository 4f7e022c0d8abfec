pub mod Says
pub mod Kinds
pub mod Sizes
pub mod Every
