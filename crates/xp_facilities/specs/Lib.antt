pub mod Indicated
pub mod Items
pub mod Laws
pub mod Limits
pub mod Octets
pub mod Requested
pub mod steps
