mod AreLive
mod LeftLemmas
mod LiveLemmas
