pub mod Forms
pub mod View
pub mod Parts
pub mod Walk
pub mod Written
