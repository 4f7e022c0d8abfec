pub mod Items
pub mod Place
pub mod Walk
