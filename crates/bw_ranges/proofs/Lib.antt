pub mod PossibleLemmas
pub mod RowLemmas
pub mod SetLemmas
pub mod VerdictLemmas
pub mod WithinLemmas
