pub mod Bare
pub mod Fields
pub mod Input
pub mod Plain
pub mod Records
pub mod Rest
pub mod Rows
pub mod Rule
