pub mod Catalogue
pub mod Mixed
pub mod Unseen
