pub mod Differing
mod Laying
mod LineLemmas
mod Listed
mod Pigeons
