pub mod Failures
pub mod SetUp
pub mod Tasks
pub mod steps
