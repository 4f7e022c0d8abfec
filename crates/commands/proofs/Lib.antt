pub mod Directives
pub mod Rows
pub mod Runs
