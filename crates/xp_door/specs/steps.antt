-- The definitions that no public contract cites.
pub mod Choices
pub mod Headers
pub mod Notices
pub mod Openings
pub mod RouterCalls
