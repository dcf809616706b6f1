pub mod Coupled
pub mod InCall
pub mod Kept
pub mod Keyed
pub mod Lines
pub mod Maps
pub mod Terms
