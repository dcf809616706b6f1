pub mod LineLemmas
pub mod NameLemmas
pub mod RuleLemmas
pub mod WayLemmas
