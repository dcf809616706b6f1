pub mod Following
pub mod Lines
pub mod Numbers
pub mod Stations
