pub mod Ways
pub mod Numbers
pub mod ByNumber
pub mod Carried
