mod CutLemmas
mod KeptLemmas
mod NoteLemmas
mod ReadingLemmas
mod SessionLemmas
mod WriteLemmas
pub mod LossLemmas
