pub mod Answered
pub mod Appends
pub mod Fields
pub mod Floats
pub mod Members
pub mod Removed
pub mod Young
