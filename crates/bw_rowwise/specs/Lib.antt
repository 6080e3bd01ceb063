pub mod Accumulator
pub mod Columns
pub mod Filter
pub mod Lanes
pub mod Numbers
pub mod Prepared
