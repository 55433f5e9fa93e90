pub mod Order
pub mod Parts
pub mod Whole
pub mod Entries
