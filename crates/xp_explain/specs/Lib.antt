pub mod Explanation
pub mod Names
pub mod Octets
pub mod Rules
pub mod Stated
pub mod Way
pub mod steps
