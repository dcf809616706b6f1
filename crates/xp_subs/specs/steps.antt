-- The definitions that only the contracts of private functions use. No public contract cites them.
pub mod Built
pub mod Checked
pub mod Consistency
pub mod DefaultCallers
pub mod Moved
pub mod Passes
pub mod Places
pub mod WithinLimits
