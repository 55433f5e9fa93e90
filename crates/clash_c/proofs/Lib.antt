pub mod Numbered
pub mod Demand3
pub mod ScriptA
pub mod Refusing
