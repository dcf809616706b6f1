pub mod Accesses
mod Addresses
mod Places
