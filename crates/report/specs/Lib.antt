pub mod Contract
pub mod Histories
