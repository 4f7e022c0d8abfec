pub mod Rules
pub mod Named
