pub mod Directives
pub mod Commands
