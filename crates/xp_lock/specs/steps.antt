-- The definitions that private steps cite. No public contract cites them.
pub mod Closing
pub mod Given
pub mod GivingUp
pub mod Keeping
pub mod Opening
pub mod Outboxes
pub mod Stalling
