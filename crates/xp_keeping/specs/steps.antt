-- What only private steps tell one another: no public contract cites it.
pub mod Details
pub mod Printing
pub mod Queue
pub mod Queued
pub mod Telling
pub mod Thread
