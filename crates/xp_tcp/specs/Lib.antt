pub mod Accesses
pub mod Admissions
pub mod Networks
pub mod NextPlaces
pub mod steps
