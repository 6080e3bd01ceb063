pub mod AnyLemmas
pub mod BitLemmas
pub mod ByteLemmas
pub mod LastLemmas
pub mod SelectedLemmas
pub mod StoredLemmas
pub mod WordLemmas
