pub mod Accesses
pub mod Failures
pub mod Hosts
pub mod NextPlaces
pub mod Prepared
