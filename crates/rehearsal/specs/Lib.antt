pub mod Class
pub mod Ready
pub mod Sums
