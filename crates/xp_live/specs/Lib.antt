pub mod AreLive
pub mod Kept
pub mod LeftCalls
pub mod LiveCalls
pub mod LiveText
pub mod steps
