pub mod FirstFault
pub mod FirstWrong
pub mod FileVerdict
pub mod ProgramFile
pub mod Selects
pub mod StatedFacts
pub mod Valid
