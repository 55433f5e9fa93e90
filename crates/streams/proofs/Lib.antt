pub mod Growing
mod Parts
