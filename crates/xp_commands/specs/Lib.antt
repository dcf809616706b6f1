pub mod Failures
pub mod steps
