pub mod Counts
pub mod Pairs
