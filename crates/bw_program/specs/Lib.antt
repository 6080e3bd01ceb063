pub mod Machine
pub mod PrintText
pub mod Program
pub mod ProgramText
pub mod Step
