mod EarlyEnds
mod LeftAlone
mod OfKeeper
mod Passes
mod Told
