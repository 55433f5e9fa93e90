pub mod Tests
pub mod Scan
pub mod Bits
pub mod Pages
pub mod Rules
