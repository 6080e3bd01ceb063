pub mod Registers
pub mod Run
