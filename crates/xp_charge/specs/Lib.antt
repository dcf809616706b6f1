pub mod Counted
pub mod Duration
pub mod FarEnd
pub mod Lines
pub mod Meter
pub mod Segments
pub mod Text
pub mod steps
