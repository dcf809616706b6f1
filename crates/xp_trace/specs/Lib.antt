pub mod Names
pub mod Pieces
pub mod Streams
pub mod steps
