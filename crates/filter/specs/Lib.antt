pub mod Filter
pub mod Passed
