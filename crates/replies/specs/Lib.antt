pub mod Replies
pub mod Heads
