pub mod Bits
pub mod Messages
