-- The definitions that only the contracts of private functions use. No public contract cites them.
pub mod Fault
pub mod Letters
pub mod Reading
