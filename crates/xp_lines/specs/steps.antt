-- Definitions that only contracts of private functions cite. No public contract cites one.
pub mod Offering
pub mod Reads
pub mod Serving
pub mod Sessions
pub mod Threads
pub mod Wire
