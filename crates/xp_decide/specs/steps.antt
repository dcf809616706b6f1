-- The definitions that only the contracts of private functions use. No public contract cites them.
pub mod Accepts
pub mod Asks
pub mod Decided
pub mod Routes
