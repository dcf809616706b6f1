-- The definitions that private steps cite. No public contract cites them.
pub mod Shown
