pub mod ChoiceLemmas
pub mod CodeLemmas
pub mod CompareLemmas
pub mod KeptLemmas
pub mod NearLemmas
pub mod SumLemmas
pub mod TransposeLemmas
