-- The definitions that no public contract cites.
pub mod Sources
pub mod Taking
