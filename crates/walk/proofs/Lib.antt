pub mod Rest
pub mod Onward
