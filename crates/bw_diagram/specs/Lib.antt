pub mod Chain
pub mod References
pub mod Diagram
pub mod Facts
pub mod Node
pub mod Product
pub mod Comparison
pub mod TruthPair
