pub mod Tellable
pub mod Sent
pub mod Ready
pub mod Settled
pub mod Once
pub mod Every
pub mod Informing
