pub mod ColumnLemmas
pub mod GatheredLemmas
pub mod SelectedLemmas
pub mod ValueLemmas
