pub mod Opening
pub mod Shown
