pub mod Tlvs
pub mod Heads
