pub mod Heeding
pub mod Refusals
