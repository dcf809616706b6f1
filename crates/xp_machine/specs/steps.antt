-- What only private steps tell one another: no public contract cites it.
pub mod Keyed
pub mod StoredState
pub mod World
