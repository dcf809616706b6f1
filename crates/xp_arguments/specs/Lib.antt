pub mod Addresses
pub mod Commands
pub mod NamedPaths
pub mod Sources
pub mod steps
