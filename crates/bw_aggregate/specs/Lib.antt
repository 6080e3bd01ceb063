pub mod Gathered
pub mod Selected
pub mod Totals
