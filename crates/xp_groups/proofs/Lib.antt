pub mod Joined
pub mod Answered
pub mod Determined
pub mod Refused
pub mod Exists
