pub mod ChainNames
pub mod Comparison
pub mod Growth
pub mod Rows
pub mod Rules
