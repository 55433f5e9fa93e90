pub mod Judging
pub mod Changes
pub mod Demand3
