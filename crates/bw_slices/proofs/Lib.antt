pub mod AboveLemmas
pub mod BeyondLemmas
pub mod ChosenLemmas
pub mod CodeLemmas
pub mod FarLemmas
pub mod KeptLemmas
