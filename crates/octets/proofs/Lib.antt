pub mod Writing
pub mod Parts
pub mod Numbers
pub mod Tests
