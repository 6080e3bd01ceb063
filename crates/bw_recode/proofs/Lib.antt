pub mod LineLemmas
pub mod ReplacingLemmas
