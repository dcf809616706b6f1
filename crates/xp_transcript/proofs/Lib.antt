pub mod Coming
mod Feeds
mod Pieces
mod TellLines
mod Told
mod Whole
