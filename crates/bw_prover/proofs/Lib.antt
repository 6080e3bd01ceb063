pub mod ColumnLemmas
pub mod RuleLemmas
