mod AppendLemmas
mod DigitLemmas
