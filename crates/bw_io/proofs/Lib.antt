pub mod KeptBytes
pub mod PieceBytes
pub mod SinkLemmas
pub mod TakenBytes
