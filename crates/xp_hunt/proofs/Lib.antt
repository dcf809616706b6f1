pub mod Looked
pub mod Exists
