pub mod Note
pub mod Reading
pub mod Session
pub mod StatementState
pub mod Statements
