-- The definitions that only the contracts of private functions use. No public contract cites them.
pub mod Names
pub mod Octets
pub mod Rules
pub mod Words
