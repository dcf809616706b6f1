pub mod Capture
pub mod Checksum
pub mod FileHeader
pub mod Segment
