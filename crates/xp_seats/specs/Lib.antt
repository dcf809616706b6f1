pub mod Handed
pub mod Recording
pub mod Views
pub mod steps
