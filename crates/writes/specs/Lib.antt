pub mod Writes
pub mod Enter
pub mod Ahead
