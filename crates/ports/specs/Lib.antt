pub mod Ports
pub mod Transactions
