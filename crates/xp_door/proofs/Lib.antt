pub mod Digits
mod Openings
mod RouterCalls
mod Stations
