pub mod TextLemmas
pub mod LineLemmas
