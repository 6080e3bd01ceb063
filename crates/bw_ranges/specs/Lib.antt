pub mod ColumnRange
pub mod PossibleTruths
pub mod TruthSet
pub mod Verdict
