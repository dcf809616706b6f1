pub mod ByGroup
pub mod DefaultCallers
pub mod Matrix
pub mod OpenPorts
pub mod Reach
pub mod Redirections
pub mod Warnings
pub mod steps
