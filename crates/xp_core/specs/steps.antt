-- What only private steps tell one another: no public contract cites it.
pub mod CoreInvariant
pub mod Journal
pub mod PreparedEntry
pub mod Reload
pub mod Sound
pub mod Stalling
pub mod Stalls
pub mod Writable
