pub mod Codes
pub mod Tlvs
pub mod Items
pub mod Messages
