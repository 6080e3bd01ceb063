pub mod ChainLemmas
pub mod ReferenceLemmas
pub mod FactsLemmas
pub mod NodeLemmas
pub mod ProductLemmas
