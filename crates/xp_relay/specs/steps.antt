-- Definitions that only the contracts of private functions cite. No promise of the crate needs them.
pub mod StoredDirection
