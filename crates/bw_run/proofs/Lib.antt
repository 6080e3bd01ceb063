pub mod MachineLemmas
pub mod RegisterLemmas
pub mod RunLemmas
