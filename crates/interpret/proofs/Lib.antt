pub mod Front
