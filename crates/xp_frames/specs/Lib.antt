pub mod Deframer
pub mod Frame
pub mod Laws
pub mod steps
