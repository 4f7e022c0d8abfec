pub mod Calls
pub mod Reads
pub mod Ledger
pub mod Claim
pub mod Builds
pub mod Corollaries
