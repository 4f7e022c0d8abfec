pub mod Tlv
pub mod Message
pub mod Fields
pub mod Checked
