mod Doubted
pub mod EndedLemmas
pub mod Flushed
pub mod Fronts
mod Printed
mod QueueLemmas
mod Sends
mod ToldLemmas
