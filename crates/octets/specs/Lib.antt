pub mod Numbers
pub mod Writing
pub mod Tests
pub mod Members
