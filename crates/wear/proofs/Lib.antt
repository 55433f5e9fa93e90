pub mod Sums
pub mod Change
pub mod Pass
pub mod Staying
pub mod Wearing
mod Rows
