pub mod Bits
pub mod Header
