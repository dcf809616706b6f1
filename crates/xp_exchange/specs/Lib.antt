pub mod Acting
pub mod FrameEvents
pub mod Play
pub mod Splitting
pub mod WholeScript
pub mod steps
