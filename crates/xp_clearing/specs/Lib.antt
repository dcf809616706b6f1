pub mod Calls
pub mod Clearings
pub mod Frames
