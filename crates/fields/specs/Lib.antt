pub mod Fields
pub mod Flow
