pub mod Operations
pub mod Carrying
pub mod Keeping
