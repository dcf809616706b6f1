pub mod Details
pub mod Doubt
pub mod Kept
pub mod Printing
pub mod Queued
pub mod Told
pub mod steps
