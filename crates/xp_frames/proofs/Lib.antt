mod Cutting
pub mod Frames
mod Pieces
mod Undone
