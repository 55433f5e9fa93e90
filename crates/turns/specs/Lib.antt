pub mod Generator
pub mod Turns
