mod DigitLemmas
mod FileLemmas
mod GivenLemmas
mod LedgerLemmas
mod LineLemmas
pub mod MomentLemmas
mod NameLemmas
mod PlainLemmas
mod RecordLemmas
mod SentLemmas
mod TextLemmas
mod WriterLemmas
