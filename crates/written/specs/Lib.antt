pub mod Written
pub mod Every
