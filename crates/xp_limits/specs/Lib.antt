pub mod Limits
pub mod Threads
