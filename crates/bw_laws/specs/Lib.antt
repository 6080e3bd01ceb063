pub mod AsDirect
pub mod Backup
pub mod LoadThenQuery
pub mod OneAnswer
