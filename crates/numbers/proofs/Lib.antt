pub mod Circle
pub mod Answers
