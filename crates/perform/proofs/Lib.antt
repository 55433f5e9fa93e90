pub mod Carrying
pub mod Opening
