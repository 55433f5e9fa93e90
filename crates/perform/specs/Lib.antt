pub mod Effects
pub mod View
