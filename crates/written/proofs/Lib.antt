pub mod Good
pub mod Host
pub mod Messages
pub mod Every
