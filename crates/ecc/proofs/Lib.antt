pub mod Entries
pub mod ByWords
pub mod Fold
pub mod Marks
pub mod Writing
pub mod Checking
pub mod Mending
