pub mod DecimalLemmas
pub mod LineLemmas
pub mod Numbers
pub mod PrintedLemmas
pub mod RegisterLemmas
pub mod SpacedWords
pub mod WordLemmas
pub mod WordSpelling
