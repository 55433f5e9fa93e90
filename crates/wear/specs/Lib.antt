pub mod Figures
pub mod Rules
pub mod Report
pub mod Wearing
