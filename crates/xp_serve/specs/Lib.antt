pub mod Ends
pub mod LeftAlone
pub mod Served
pub mod Serving
pub mod steps
