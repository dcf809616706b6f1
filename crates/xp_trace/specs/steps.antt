-- The definitions that no public contract cites.
pub mod Finishing
pub mod Naming
