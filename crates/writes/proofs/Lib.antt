pub mod Over
pub mod Listed
pub mod Entering
pub mod Ways
pub mod Deciding
