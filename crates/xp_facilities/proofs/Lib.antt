pub mod Asking
pub mod Bounds
pub mod Meant
pub mod OneReading
pub mod Reading
pub mod Telling
pub mod ReadBack
pub mod OneTold
