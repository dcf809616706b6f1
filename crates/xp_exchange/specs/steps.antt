-- What only private functions promise one another: no public contract cites it.
pub mod Acting
pub mod Playing
pub mod Replaying
