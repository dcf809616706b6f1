pub mod Coding
pub mod Indicated
pub mod Refusals
