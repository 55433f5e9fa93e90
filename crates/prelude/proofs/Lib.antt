pub mod Tests
pub mod Scan
pub mod Tab
pub mod Bits
pub mod Pages
pub mod Rules
