pub mod Lanes
pub mod Last
pub mod Selected
pub mod Shifted
