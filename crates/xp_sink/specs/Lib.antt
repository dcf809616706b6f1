pub mod InForce
pub mod Seen
pub mod steps
