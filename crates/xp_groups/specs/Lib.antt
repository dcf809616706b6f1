pub mod Groups
pub mod Intends
pub mod Admits
pub mod MayJoin
pub mod Laws
