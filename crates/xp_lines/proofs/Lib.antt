mod AddUp
mod Expiring
mod Octets
mod Offered
mod Pulling
mod Recorded
pub mod Served
pub mod Serving
pub mod Sessions
mod Sums
mod Together
mod Worked
mod Written
