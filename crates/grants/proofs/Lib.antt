pub mod Numbers
pub mod Last
pub mod Once
pub mod Starts
