pub mod Refusal
pub mod Unplanned
