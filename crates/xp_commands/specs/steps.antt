-- What only private steps tell one another: no public contract cites it.
pub mod Failures
pub mod Taken
