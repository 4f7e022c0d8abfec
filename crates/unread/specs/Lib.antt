pub mod Alike
pub mod Unread
