pub mod Opening
pub mod Demand3
pub mod PowerLoss
pub mod ScriptA
pub mod OnLists
