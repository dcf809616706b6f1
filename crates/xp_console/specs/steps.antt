-- The definitions that only the contracts of private functions use. No public contract cites them.
pub mod Clients
pub mod Objects
pub mod Responses
