pub mod Checks
pub mod Bytes
pub mod Agreeing
pub mod Mixed
pub mod Unseen
