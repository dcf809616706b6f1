mod Following
pub mod Naming
mod Parting
