mod Errands
mod NamedLemmas
mod Shapes
