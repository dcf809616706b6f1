pub mod Causes
pub mod Facilities
pub mod Names
pub mod Octets
pub mod Packets
