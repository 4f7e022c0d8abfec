pub mod Sums
pub mod Maps
pub mod Picks
