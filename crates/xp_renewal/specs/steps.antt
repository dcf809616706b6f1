-- What only private steps tell one another: no public contract cites it.
pub mod Laid
