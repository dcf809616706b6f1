-- Definitions that only private steps cite.
pub mod Shown
