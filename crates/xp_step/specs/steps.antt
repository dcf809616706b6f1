-- What only private steps tell one another: no public contract cites it.
pub mod Branches
pub mod HasTables
pub mod ReceivedPackets
