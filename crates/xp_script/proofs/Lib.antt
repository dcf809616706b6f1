mod DigitLemmas
mod FrameLemmas
mod HexLemmas
mod ListLemmas
mod MomentLemmas
mod NameLemmas
mod SaidLemmas
mod WordLemmas
