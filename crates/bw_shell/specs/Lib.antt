pub mod ParsedStatement
pub mod CheckText
pub mod Plan
pub mod Certification
