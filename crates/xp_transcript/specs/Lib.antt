pub mod Changed
pub mod Places
pub mod Rows
pub mod Segments
pub mod Telling
pub mod Transcript
pub mod Words
pub mod steps
